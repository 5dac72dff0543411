-- Equal texts, word by word.
use Rattle.std.proofs.Common.{◌≡◌, ℕ, ◌<◌, Bool, true, ◌&&◌, List, [], ◌∷◌, ◌++◌, length, take, drop, get_or, refl, sym, ap, ◌∙◌, inl, inr, eqb, w64, arith}
use Rattle.std.specs.List.{list_all, zip}
use Rattle.std.specs.Int.{from_le_bytes, to_le_bytes}
use Rattle.std.specs.Str.{bytes_eq}
use Rattle.std.proofs.lemmas.Bool.{cases_Bool, false_from_ne_true, eq-eqb, eqb-true, both_ways}
use Rattle.std.proofs.lemmas.List.{take-append-drop}
use Rattle.std.proofs.lemmas.Nat.{le_bytes_8}
use Rattle.std.proofs.lemmas.Slice.Eq.{bytes_eq-Decides}

pub list_all-zip_same : (xs ys : List ℕ) → length xs ≡ length ys → list_all (λ p. eqb p.0 p.1) (zip xs ys) ≡ bytes_eq xs ys
list_all-zip_same [] [] h = refl
list_all-zip_same [] (y ∷ ys) h = absurd (omega arith)
list_all-zip_same (x ∷ xs) [] h = absurd (omega arith)
list_all-zip_same (x ∷ xs) (y ∷ ys) h = let later : length xs ≡ length ys = omega arith in ap (λ (r : Bool). eqb x y && r) (list_all-zip_same xs ys later)

same_behind : (front xs ys : List ℕ) → bytes_eq (front ++ xs) (front ++ ys) ≡ bytes_eq xs ys
same_behind [] xs ys = refl
same_behind (b ∷ bs) xs ys = rw (eq-eqb b b refl) (same_behind bs xs ys)

-- eight bytes are their number
same_word : (a b : List ℕ) (m n : ℕ) → length a ≡ 8 → length b ≡ 8 → ((i : ℕ) → get_or a i 0 < 256) → ((i : ℕ) → get_or b i 0 < 256) → m ≡ from_le_bytes w64 a → n ≡ from_le_bytes w64 b → m ≡ n → a ≡ b
same_word a b m n len_a len_b fits_a fits_b is_m is_n same = sym (le_bytes_8 a m len_a fits_a is_m) ∙ ap (to_le_bytes w64) same ∙ le_bytes_8 b n len_b fits_b is_n

pub same_numbers : (a b : List ℕ) (m n : ℕ) → length a ≡ 8 → length b ≡ 8 → ((i : ℕ) → get_or a i 0 < 256) → ((i : ℕ) → get_or b i 0 < 256) → m ≡ from_le_bytes w64 a → n ≡ from_le_bytes w64 b → eqb m n ≡ bytes_eq a b
same_numbers a b m n len_a len_b fits_a fits_b is_m is_n = elim (cases_Bool (eqb m n)) [
  | inl e ↦ e ∙ sym ((bytes_eq-Decides a b).1 (same_word a b m n len_a len_b fits_a fits_b is_m is_n (eqb-true m n e)))
  | inr e ↦ e ∙ sym (false_from_ne_true _ (λ t. both_ways (eqb m n) e (eq-eqb m n (is_m ∙ ap (from_le_bytes w64) ((bytes_eq-Decides a b).0 t) ∙ sym is_n))))
]

-- two texts past their first eight bytes
pub record Words (xs ys a b more rest : List ℕ) : Type 0 where
  pub is_a : a ≡ take 8 xs
  pub is_b : b ≡ take 8 ys
  pub is_more : more ≡ drop 8 xs
  pub is_rest : rest ≡ drop 8 ys

pub past_same : (xs ys a b more rest : List ℕ) → Words xs ys a b more rest → bytes_eq a b ≡ true → bytes_eq xs ys ≡ bytes_eq more rest
past_same xs ys a b more rest w same =
    let words : a ≡ b = (bytes_eq-Decides a b).0 same in
    let whole_x : xs ≡ a ++ more = sym (take-append-drop 8 xs) ∙ ap (λ (t : List ℕ). t ++ drop 8 xs) (sym w.is_a) ∙ ap (λ (t : List ℕ). a ++ t) (sym w.is_more) in
    let whole_y : ys ≡ a ++ rest = sym (take-append-drop 8 ys) ∙ ap (λ (t : List ℕ). t ++ drop 8 ys) (sym w.is_b) ∙ ap (λ (t : List ℕ). b ++ t) (sym w.is_rest) ∙ ap (λ (t : List ℕ). t ++ rest) (sym words) in
    ap (λ (t : List ℕ). bytes_eq t ys) whole_x ∙ ap (bytes_eq (a ++ more)) whole_y ∙ same_behind a more rest
