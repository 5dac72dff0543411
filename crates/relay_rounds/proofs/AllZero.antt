-- Lists of zeros.
use Rattle.std.proofs.Common.{◌≡◌, ℕ, ◌≤◌, List, [], ◌∷◌, length, take, replicate, refl, ap, ◌∙◌}
use Rattle.std.specs.Prelude.{All}
use Rattle.std.proofs.lemmas.List.{take-replicate}
use Rattle.std.proofs.lemmas.List.Elements.{All-head, All-tail}

zeros_are : (xs : List ℕ) → All (λ x. x ≡ 0) xs → xs ≡ replicate (length xs) 0
zeros_are [] zero = refl
zeros_are (x ∷ xs) zero = ap (λ (y : ℕ). y ∷ xs) (All-head (λ y. y ≡ 0) x xs zero) ∙ ap (λ (ys : List ℕ). 0 ∷ ys) (zeros_are xs (All-tail (λ y. y ≡ 0) x xs zero))

pub first_zeros : (n : ℕ) (xs : List ℕ) → n ≤ length xs → All (λ x. x ≡ 0) xs → take n xs ≡ replicate n 0
first_zeros n xs small zero = ap (λ (ys : List ℕ). take n ys) (zeros_are xs zero) ∙ take-replicate n (length xs) 0 small
