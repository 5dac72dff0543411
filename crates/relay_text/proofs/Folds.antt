-- Folding: it changes no test of a domain, and a folded text stays as it is.
use Rattle.std.proofs.Common.{◌≡◌, ℕ, ◌+◌, ◌-◌, ◌<◌, ◌≤◌, Bool, true, false, not, cond, ◌&&◌, ◌||◌, ◌==◌, ltb, List, [], ◌∷◌, ◌++◌, length, take, drop, get_or, map, refl, sym, ap, ◌∙◌, arith, codes, Decides}
use Rattle.std.specs.List.{list_all, list_any, slice_split, onto_first}
use Rattle.std.specs.Char.{is_ascii_alphanumeric, is_ascii_graphic, to_ascii_lowercase}
use Rattle.std.specs.Str.{bytes_eq}
use Rattle.std.proofs.lemmas.List.{take-map, drop-map, length-map, get_or-map}
use Rattle.std.proofs.lemmas.Slice.Eq.{bytes_eq-Decides}
use Rattle.std.proofs.lemmas.Bool.{cond_both, ltb-true, ltb-false}
use Rattle.std.proofs.lemmas.Bool.Decides.{nat_tests, same_from_decides, Decides-like}
use Rattle.relay_text.specs.Bytes.{folded}
use Rattle.relay_text.specs.Addresses.{inside, is_run_of, is_dot, is_domain, is_domain_name, is_literal, is_literal_content}
use Rattle.relay_text.proofs.Domains.{bytes_eq-inside, ends_from}

-- what holds of a byte and of each capital's small letter holds of the folded byte
pub at_lowercase : (P : ℕ → Type 0) (b : ℕ) → (b < 65 → P b) → (65 ≤ b → b < 91 → P (b + 32)) → (91 ≤ b → P b) → P (to_ascii_lowercase b)
at_lowercase P b below capital above =
    cond_both (ltb b 65) b (cond (ltb b 91) (b + 32) b) P (λ e. below (ltb-true b 65 e))
    (λ e. cond_both (ltb b 91) (b + 32) b P (λ f. capital (ltb-false b 65 e) (ltb-true b 91 f)) (λ f. above (ltb-false b 91 f)))

abbrev pub IsFoldable : (ℕ → Bool) → Type 0
IsFoldable test = (b : ℕ) → 65 ≤ b → b < 91 → test (b + 32) ≡ test b

pub same_folded : (test : ℕ → Bool) → IsFoldable test → (b : ℕ) → test (to_ascii_lowercase b) ≡ test b
same_folded test h b = at_lowercase (λ x. test x ≡ test b) b (λ _. refl) (λ l u. h b l u) (λ _. refl)

is_dot-folds : IsFoldable is_dot
is_dot-folds b l u = grind (arith, nat_tests)

abbrev is_label_byte : ℕ → Bool
is_label_byte b = is_ascii_alphanumeric b || (b == 45) || (b == 95)

is_label_byte-folds : IsFoldable is_label_byte
is_label_byte-folds b l u = grind (arith, nat_tests)

abbrev is_literal_byte : ℕ → Bool
is_literal_byte b = is_ascii_graphic b && not (list_any (λ c. c == b) (codes "@[]\\"))

is_literal_byte-folds : IsFoldable is_literal_byte
is_literal_byte-folds b l u = grind (arith, nat_tests)

pub list_all-folded : (test : ℕ → Bool) → IsFoldable test → (xs : List ℕ) → list_all test (folded xs) ≡ list_all test xs
list_all-folded test h [] = refl
list_all-folded test h (b ∷ bs) = ap (λ t. t && list_all test (folded bs)) (same_folded test h b) ∙ ap (λ t. test b && t) (list_all-folded test h bs)

pub is_run_of-folded : (test : ℕ → Bool) → IsFoldable test → (xs : List ℕ) → is_run_of test (folded xs) ≡ is_run_of test xs
is_run_of-folded test h [] = refl
is_run_of-folded test h (b ∷ bs) = list_all-folded test h (b ∷ bs)

onto_first-folded : (b : ℕ) (parts : List (List ℕ)) → onto_first (to_ascii_lowercase b) (map folded parts) ≡ map folded (onto_first b parts)
onto_first-folded b [] = refl
onto_first-folded b (part ∷ parts) = refl

split_step : (t : Bool) (b : ℕ) (parts : List (List ℕ)) → cond t ([] ∷ map folded parts) (onto_first (to_ascii_lowercase b) (map folded parts)) ≡ map folded (cond t ([] ∷ parts) (onto_first b parts))
split_step true b parts = refl
split_step false b parts = onto_first-folded b parts

pub slice_split-folded : (xs : List ℕ) → slice_split is_dot (folded xs) ≡ map folded (slice_split is_dot xs)
slice_split-folded [] = refl
slice_split-folded (b ∷ bs) =
    ap (λ t. cond t ([] ∷ slice_split is_dot (folded bs)) (onto_first (to_ascii_lowercase b) (slice_split is_dot (folded bs)))) (same_folded is_dot is_dot-folds b)
    ∙ ap (λ parts. cond (is_dot b) ([] ∷ parts) (onto_first (to_ascii_lowercase b) parts)) (slice_split-folded bs)
    ∙ split_step (is_dot b) b (slice_split is_dot bs)

all_runs-folded : (test : ℕ → Bool) → IsFoldable test → (parts : List (List ℕ)) → list_all (is_run_of test) (map folded parts) ≡ list_all (is_run_of test) parts
all_runs-folded test h [] = refl
all_runs-folded test h (part ∷ parts) = ap (λ t. t && list_all (is_run_of test) (map folded parts)) (is_run_of-folded test h part) ∙ ap (λ t. is_run_of test part && t) (all_runs-folded test h parts)

is_domain_name-folded : (xs : List ℕ) → is_domain_name (folded xs) ≡ is_domain_name xs
is_domain_name-folded xs = ap (λ parts. list_all (is_run_of is_label_byte) parts) (slice_split-folded xs) ∙ all_runs-folded is_label_byte is_label_byte-folds (slice_split is_dot xs)

inside-folded : (xs : List ℕ) → inside (folded xs) ≡ folded (inside xs)
inside-folded xs =
    ap (λ n. take (n - 1 - 1) (drop 1 (folded xs))) (length-map xs to_ascii_lowercase)
    ∙ ap (λ ys. take (length xs - 1 - 1) ys) (drop-map to_ascii_lowercase 1 xs)
    ∙ take-map to_ascii_lowercase (length xs - 1 - 1) (drop 1 xs)

abbrev HasEnds : List ℕ → Type 0
HasEnds text = (2 ≤ length text) × (get_or text 0 0 ≡ 91) × (get_or text (length text - 1) 0 ≡ 93)

in_brackets : (text : List ℕ) → Decides (bytes_eq text (91 ∷ [] ++ inside text ++ 93 ∷ [])) (HasEnds text)
in_brackets text = (λ e. ends_from text (inside text) 91 93 ((bytes_eq-Decides _ _).0 e), λ h. bytes_eq-inside text 91 93 h.0 h.1 h.2)

bracket_before : (b c : ℕ) → 91 ≤ c → c < 97 → to_ascii_lowercase b ≡ c → b ≡ c
bracket_before b c low high = at_lowercase (λ x. x ≡ c → b ≡ c) b (λ l e. e) (λ l u e. omega (arith, e)) (λ l e. e)

bracket_after : (b c : ℕ) → 91 ≤ c → b ≡ c → to_ascii_lowercase b ≡ c
bracket_after b c low h = at_lowercase (λ x. x ≡ c) b (λ l. h) (λ l u. omega (arith, h)) (λ l. h)

ends_after : (text : List ℕ) → HasEnds text → HasEnds (folded text)
ends_after text h =
    let same_length : length (folded text) ≡ length text = length-map text to_ascii_lowercase in
    let first : get_or (folded text) 0 0 ≡ to_ascii_lowercase (get_or text 0 0) = get_or-map to_ascii_lowercase text 0 0 0 (omega (arith, h.0)) in
    let last : get_or (folded text) (length text - 1) 0 ≡ to_ascii_lowercase (get_or text (length text - 1) 0) = get_or-map to_ascii_lowercase text (length text - 1) 0 0 (omega (arith, h.0)) in
    (omega (arith, h.0, same_length), first ∙ bracket_after _ 91 (omega arith) h.1, ap (λ n. get_or (folded text) (n - 1) 0) same_length ∙ last ∙ bracket_after _ 93 (omega arith) h.2)

ends_before : (text : List ℕ) → HasEnds (folded text) → HasEnds text
ends_before text h =
    let same_length : length (folded text) ≡ length text = length-map text to_ascii_lowercase in
    let long : 2 ≤ length text = omega (arith, h.0, same_length) in
    let first : get_or (folded text) 0 0 ≡ to_ascii_lowercase (get_or text 0 0) = get_or-map to_ascii_lowercase text 0 0 0 (omega (arith, long)) in
    let last : get_or (folded text) (length text - 1) 0 ≡ to_ascii_lowercase (get_or text (length text - 1) 0) = get_or-map to_ascii_lowercase text (length text - 1) 0 0 (omega (arith, long)) in
    (long, bracket_before _ 91 (omega arith) (omega arith) (sym first ∙ h.1), bracket_before _ 93 (omega arith) (omega arith) (sym last ∙ sym (ap (λ n. get_or (folded text) (n - 1) 0) same_length) ∙ h.2))

is_literal-folded : (xs : List ℕ) → is_literal (folded xs) ≡ is_literal xs
is_literal-folded xs =
    let brackets : bytes_eq (folded xs) (91 ∷ [] ++ inside (folded xs) ++ 93 ∷ []) ≡ bytes_eq xs (91 ∷ [] ++ inside xs ++ 93 ∷ []) = same_from_decides _ _ (Decides-like _ (ends_before xs) (ends_after xs) (in_brackets (folded xs))) (in_brackets xs) in
    let content : is_literal_content (inside (folded xs)) ≡ is_literal_content (inside xs) = ap (λ ys. is_run_of is_literal_byte ys) (inside-folded xs) ∙ is_run_of-folded is_literal_byte is_literal_byte-folds (inside xs) in
    ap (λ t. t && is_literal_content (inside (folded xs))) brackets ∙ ap (λ t. bytes_eq xs (91 ∷ [] ++ inside xs ++ 93 ∷ []) && t) content

-- folding keeps a domain a domain, and makes none of what is none
pub is_domain-folded : (xs : List ℕ) → is_domain (folded xs) ≡ is_domain xs
unfolding is_domain
is_domain-folded xs = ap (λ t. t || is_literal (folded xs)) (is_domain_name-folded xs) ∙ ap (λ t. is_domain_name xs || t) (is_literal-folded xs)

lowercase_stays : (b : ℕ) → to_ascii_lowercase (to_ascii_lowercase b) ≡ to_ascii_lowercase b
lowercase_stays b = at_lowercase (λ x. to_ascii_lowercase x ≡ x) b (λ l. grind (arith, nat_tests)) (λ l u. grind (arith, nat_tests)) (λ l. grind (arith, nat_tests))

pub folded-folded : (xs : List ℕ) → folded (folded xs) ≡ folded xs
folded-folded [] = refl
folded-folded (b ∷ bs) = ap (λ c. c ∷ folded (folded bs)) (lowercase_stays b) ∙ ap (λ ys. to_ascii_lowercase b ∷ ys) (folded-folded bs)
