-- What the readers of nexthops find.
use Rattle.std.proofs.Common.{◌≡◌, ℕ, suc, ◌+◌, ◌-◌, ◌<◌, ◌≤◌, Bool, true, false, not, cond, ltb, ◌==◌, ◌||◌, List, [], ◌∷◌, length, take, drop, refl, ap, ◌∙◌, arith}
use Rattle.std.specs.Prelude.{Some, None, position, unwrap_or}
use Rattle.std.specs.List.{list_all, list_any, position_or_len, before_first}
use Rattle.std.specs.Char.{to_ascii_lowercase}
use Rattle.std.proofs.lemmas.List.{length-map, length-take, length-take-le, length-drop, drop-drop, take_rest, take_all}
use Rattle.std.proofs.lemmas.List.Sums.{prefix_len-le-length}
use Rattle.std.proofs.lemmas.Bool.Decides.{nat_tests}
use Rattle.std.proofs.lemmas.Bool.{ltb-false, lt-ltb, le-ltb}
use Rattle.std.proofs.lemmas.Slice.Eq.{bytes_eq-Decides}
use Rattle.relay_text.specs.Bytes.{folded, begins_with_word}
use Rattle.relay_text.specs.Addresses.{is_run_of}

pub is_run_of_some : (test : ℕ → Bool) (xs : List ℕ) → (length xs == 0) ≡ false → is_run_of test xs ≡ list_all test xs
is_run_of_some test [] h = cc
is_run_of_some test (x ∷ xs) h = refl

-- a text that begins with a word is as long as the word
pub word_within : (word text : List ℕ) → begins_with_word word text ≡ true → length word ≤ length text
word_within word text h =
    let same : folded (take (length word) text) ≡ word = (bytes_eq-Decides _ _).0 h in
    omega (arith, ap length same, length-map (take (length word) text) to_ascii_lowercase, length-take (length word) text)

-- the first place that passes, or the length
pub place_of : (p : ℕ → Bool) (xs : List ℕ) → unwrap_or (position p xs) (length xs) ≡ position_or_len p xs
place_of p xs = by_test (ltb (position_or_len p xs) (length xs)) refl where
  by_test : (t : Bool) → ltb (position_or_len p xs) (length xs) ≡ t → unwrap_or (cond t (Some (position_or_len p xs)) None) (length xs) ≡ position_or_len p xs
  by_test true h = refl
  by_test false h = omega (arith, ltb-false _ _ h, prefix_len-le-length (λ x. not (p x)) xs)

any_cond : (t a : Bool) (place len : ℕ) → a ≡ ltb place len → (t || a) ≡ ltb (cond (not t) (1 + place) 0) (suc len)
any_cond true a place len h = grind (arith, nat_tests)
any_cond false a place len h = h ∙ grind (arith, nat_tests)

-- some element passes exactly where the first one that passes is within the list
pub list_any-place : (p : ℕ → Bool) (xs : List ℕ) → list_any p xs ≡ ltb (position_or_len p xs) (length xs)
list_any-place p [] = refl
list_any-place p (x ∷ xs) = any_cond (p x) (list_any p xs) (position_or_len p xs) (length xs) (list_any-place p xs)

-- where something is left behind the first place, an element passes; else none does
pub any_left : (p : ℕ → Bool) (xs : List ℕ) → 1 ≤ length (drop (position_or_len p xs) xs) → list_any p xs ≡ true
any_left p xs h = list_any-place p xs ∙ lt-ltb _ _ (omega (arith, h, length-drop (position_or_len p xs) xs))

pub none_left : (p : ℕ → Bool) (xs : List ℕ) → length (drop (position_or_len p xs) xs) < 1 → list_any p xs ≡ false
none_left p xs h = list_any-place p xs ∙ le-ltb _ _ (omega (arith, h, length-drop (position_or_len p xs) xs))

-- where nothing is left, the whole list stands before it
pub all_before : (p : ℕ → Bool) (xs : List ℕ) → length (drop (position_or_len p xs) xs) < 1 → before_first p xs ≡ xs
all_before p xs h = take_all _ xs (omega (arith, h, length-drop (position_or_len p xs) xs))

-- what is left without its first element
pub left_over : (p : ℕ → Bool) (xs : List ℕ) → (let left = drop (position_or_len p xs) xs in take (length left - 1) (drop 1 left)) ≡ drop (position_or_len p xs + 1) xs
left_over p xs = let left = drop (position_or_len p xs) xs in take_rest left 1 ∙ drop-drop 1 (position_or_len p xs) xs

pub length-before_first : (p : ℕ → Bool) (xs : List ℕ) → length (before_first p xs) ≡ position_or_len p xs
length-before_first p xs = length-take-le _ xs (prefix_len-le-length (λ x. not (p x)) xs)
