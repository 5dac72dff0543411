-- Marks: what the marks of a text say of its bytes, and of what is left of it in a loop.
use Rattle.std.proofs.Common.{◌≡◌, ℕ, suc, ◌+◌, ◌-◌, ◌<◌, ◌≤◌, Bool, true, false, not, cond, ◌&&◌, ◌||◌, ◌==◌, ltb, List, [], ◌∷◌, length, take, drop, get_or, filter, refl, sym, ap, ◌∙◌, arith}
use Rattle.std.specs.List.{list_any, position_or_len}
use Rattle.std.proofs.lemmas.List.{take-map, drop-map, at_drop_more, take_rest, take_all, drop_all}
use Rattle.std.proofs.lemmas.Bool.Decides.{nat_tests}
use Rattle.std.proofs.lemmas.Bool.{lt-ltb, le-ltb}
use Rattle.relay_text.specs.Addresses.{quoted_cut}
use Rattle.relay_text.specs.Quotes.{Mark, marks_from, marks, bytes_of, is_quote, without_escapes}

pub bytes_of-marks_from : (escaped : Bool) (text : List ℕ) → bytes_of (marks_from escaped text) ≡ text
bytes_of-marks_from escaped [] = refl
bytes_of-marks_from escaped (b ∷ bs) = ap (λ xs. b ∷ xs) (bytes_of-marks_from (not escaped && (b == 92)) bs)

pub length-marks_from : (escaped : Bool) (text : List ℕ) → length (marks_from escaped text) ≡ length text
length-marks_from escaped [] = refl
length-marks_from escaped (b ∷ bs) = ap (λ n. suc n) (length-marks_from (not escaped && (b == 92)) bs)

pub bytes_of-take : (n : ℕ) (text : List ℕ) → bytes_of (take n (marks text)) ≡ take n text
bytes_of-take n text = sym (take-map (λ m. m.byte) n (marks text)) ∙ ap (λ xs. take n xs) (bytes_of-marks_from false text)

pub bytes_of-drop : (n : ℕ) (text : List ℕ) → bytes_of (drop n (marks text)) ≡ drop n text
bytes_of-drop n text = sym (drop-map (λ m. m.byte) n (marks text)) ∙ ap (λ xs. drop n xs) (bytes_of-marks_from false text)

any_cond : (t a : Bool) (place len : ℕ) → a ≡ ltb place len → (t || a) ≡ ltb (cond (not t) (1 + place) 0) (suc len)
any_cond true a place len h = grind (arith, nat_tests)
any_cond false a place len h = h ∙ grind (arith, nat_tests)

-- some element passes exactly where the first one that passes is within the list
pub list_any-place : {X : Type 0} (p : X → Bool) (xs : List X) → list_any p xs ≡ ltb (position_or_len p xs) (length xs)
list_any-place p [] = refl
list_any-place p (x ∷ xs) = any_cond (p x) (list_any p xs) (position_or_len p xs) (length xs) (list_any-place p xs)

-- the place of the first unescaped quote in what is left of a text
abbrev pub quote_place : Bool → List ℕ → ℕ
quote_place escaped text = position_or_len is_quote (marks_from escaped text)

-- what is left of a quoted string's content without its escapes, after a byte that does or doesn't escape the next
abbrev pub kept_from : Bool → List ℕ → List ℕ
kept_from escaped [] = []
kept_from escaped (b ∷ bs) = cond (not escaped && (b == 92)) (kept_from true bs) (b ∷ kept_from false bs)

abbrev is_kept : Mark → Bool
is_kept m = m.escaped || not (m.byte == 92)

kept_step : (escaped is_slash : Bool) (b : ℕ) (bs : List ℕ) → ((e : Bool) → bytes_of (filter is_kept (marks_from e bs)) ≡ kept_from e bs)
    → bytes_of (cond (escaped || not is_slash) (record { byte = b; escaped = escaped } ∷ filter is_kept (marks_from (not escaped && is_slash) bs)) (filter is_kept (marks_from (not escaped && is_slash) bs))) ≡ cond (not escaped && is_slash) (kept_from true bs) (b ∷ kept_from false bs)
kept_step true true b bs h = ap (λ xs. b ∷ xs) (h false)
kept_step true false b bs h = ap (λ xs. b ∷ xs) (h false)
kept_step false true b bs h = h true
kept_step false false b bs h = ap (λ xs. b ∷ xs) (h false)

pub kept_is : (escaped : Bool) (text : List ℕ) → bytes_of (filter is_kept (marks_from escaped text)) ≡ kept_from escaped text
kept_is escaped [] = refl
kept_is escaped (b ∷ bs) = kept_step escaped (b == 92) b bs (λ e. kept_is e bs)

pub without_escapes-kept : (content : List ℕ) → without_escapes content ≡ kept_from false content
without_escapes-kept content = kept_is false content

pub kept_from-more : (escaped : Bool) (text : List ℕ) (i d : ℕ) → i < length text → kept_from escaped (drop i text) ≡ cond (not escaped && (get_or text i d == 92)) (kept_from true (drop (i + 1) text)) (get_or text i d ∷ kept_from false (drop (i + 1) text))
kept_from-more escaped text i d h = at_drop_more (λ xs. kept_from escaped xs) text i d h

cond_step : (t : Bool) (K : Bool → List ℕ) (b len total : ℕ) → len + length (cond t (K true) (b ∷ K false)) ≡ total → (len + cond t 0 1) + length (K t) ≡ total
cond_step true K b len total h = omega (arith, h)
cond_step false K b len total h = omega (arith, h)

-- one byte more of a count of what is kept
pub kept_count-more : (len : ℕ) (escaped : Bool) (text : List ℕ) (i total : ℕ) → i < length text → len + length (kept_from escaped (drop i text)) ≡ total
    → (len + cond (not escaped && (get_or text i 0 == 92)) 0 1) + length (kept_from (not escaped && (get_or text i 0 == 92)) (drop (i + 1) text)) ≡ total
kept_count-more len escaped text i total within h =
    cond_step (not escaped && (get_or text i 0 == 92)) (λ e. kept_from e (drop (i + 1) text)) (get_or text i 0) len total (ap (λ xs. len + length xs) (sym (kept_from-more escaped text i 0 within)) ∙ h)

-- a quoted local part that is closed, and one that isn't, by the place of its closing quote
pub quoted_cut-closed : (text : List ℕ) (place : ℕ) → place ≡ position_or_len is_quote (marks text) → place < length text
    → record { quoted = true; closed = true; raw = take place text; rest = take (length text - (place + 1)) (drop (place + 1) text) } ≡ quoted_cut text
quoted_cut-closed text place h within =
    let closed : list_any is_quote (marks text) ≡ true = list_any-place is_quote (marks text) ∙ lt-ltb _ _ (omega (arith, h, length-marks_from false text)) in
    let raw : bytes_of (take (position_or_len is_quote (marks text)) (marks text)) ≡ take place text = bytes_of-take _ text ∙ ap (λ n. take n text) (sym h) in
    let rest : bytes_of (drop (position_or_len is_quote (marks text) + 1) (marks text)) ≡ take (length text - (place + 1)) (drop (place + 1) text) = bytes_of-drop _ text ∙ ap (λ n. drop (n + 1) text) (sym h) ∙ sym (take_rest text (place + 1)) in
    cc

pub quoted_cut-open : (text : List ℕ) (place : ℕ) → place ≡ position_or_len is_quote (marks text) → length text ≤ place → place ≤ length text
    → record { quoted = true; closed = false; raw = text; rest = take (length text - place) (drop place text) } ≡ quoted_cut text
quoted_cut-open text place h past within =
    let closed : list_any is_quote (marks text) ≡ false = list_any-place is_quote (marks text) ∙ le-ltb _ _ (omega (arith, h, length-marks_from false text)) in
    let raw : bytes_of (take (position_or_len is_quote (marks text)) (marks text)) ≡ text = bytes_of-take _ text ∙ take_all _ text (omega (arith, h)) in
    let rest : bytes_of (drop (position_or_len is_quote (marks text) + 1) (marks text)) ≡ take (length text - place) (drop place text) = bytes_of-drop _ text ∙ drop_all _ text (omega (arith, h)) ∙ sym (take_rest text place ∙ drop_all place text past) in
    cc
