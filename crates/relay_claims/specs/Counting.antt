-- How often a number stands in a list, and sums over a list.
use Rattle.std.specs.Prelude.{ℕ, suc, zero, ◌+◌, ◌<◌, cond, eqb, ltb, List, [], ◌∷◌}

-- f of each item, added up
abbrev pub total : {A : Type 0} → (A → ℕ) → List A → ℕ
total f [] = 0
total f (x ∷ xs) = f x + total f xs

-- how often x stands in the list
abbrev pub times : ℕ → List ℕ → ℕ
times x [] = 0
times x (y ∷ ys) = cond (eqb x y) 1 0 + times x ys

-- x stands in the list
abbrev pub IsIn : ℕ → List ℕ → Type 0
IsIn x xs = 0 < times x xs

-- the k numbers from a on
abbrev pub span : ℕ → ℕ → List ℕ
span a zero = []
span a (suc k) = a ∷ span (a + 1) k

-- 1 for a number below n, else 0
abbrev pub once_below : ℕ → ℕ → ℕ
once_below x n = cond (ltb x n) 1 0
