-- The value of decimal digits never falls as digits follow.
use Rattle.std.proofs.Common.{◌≡◌, ℕ, ◌+◌, ◌≤◌, ◌<◌, List, [], ◌∷◌, length, take, drop, get_or, fold, subst, arith}
use Rattle.std.proofs.lemmas.List.{take-append-drop}
use Rattle.std.proofs.lemmas.List.Sums.{fold-append, fold_more}
use Rattle.relay_text.specs.Numbers.{with_digit, digits_value}

value_grows : (n : ℕ) (digits : List ℕ) → n ≤ fold with_digit n digits
value_grows n [] = omega arith
value_grows n (d ∷ ds) = omega (arith, value_grows (with_digit n d) ds)

-- the value of all is at least that of a front and one more digit
pub value_of_more : (digits : List ℕ) (i : ℕ) → i < length digits → with_digit (digits_value (take i digits)) (get_or digits i 0) ≤ digits_value digits
value_of_more digits i h =
    let front = fold_more with_digit 0 digits i 0 h in
    let whole : digits_value digits ≡ fold with_digit (digits_value (take (i + 1) digits)) (drop (i + 1) digits) =
    subst (λ xs. digits_value xs ≡ fold with_digit (digits_value (take (i + 1) digits)) (drop (i + 1) digits)) (take-append-drop (i + 1) digits) (fold-append with_digit 0 (take (i + 1) digits) (drop (i + 1) digits)) in
    omega (arith, front, whole, value_grows (digits_value (take (i + 1) digits)) (drop (i + 1) digits))
