-- Lemmas on runs of numbers, and on how many of them are counted.
use Rattle.std.proofs.Common.{◌≡◌, ℕ, ◌+◌, ◌≤◌, Bool, true, false, cond, List, [], ◌∷◌, ◌++◌, map, arith, sym, ap, ◌∙◌}
use Rattle.std.specs.List.{range_with_len, count_by}
use Rattle.std.proofs.lemmas.List.{map-id}
use Rattle.std.proofs.lemmas.Bool.{cond-true, cond-false}
use Rattle.std.proofs.lemmas.List.Sums.{sum_by_push, count_by-le-length}
use Rattle.std.proofs.lemmas.List.FromFn.{map-range_with_len_more, length-range_with_len}

-- a run of numbers, and one more
pub range_more : (n : ℕ) → range_with_len 0 (n + 1) ≡ range_with_len 0 n ++ n ∷ []
range_more n =
    let more : map (λ (x : ℕ). x) (range_with_len 0 (n + 1)) ≡ map (λ (x : ℕ). x) (range_with_len 0 n) ++ n ∷ [] = map-range_with_len_more (λ (x : ℕ). x) 0 n n (omega arith) in
    sym (map-id (range_with_len 0 (n + 1))) ∙ more ∙ ap (λ (xs : List ℕ). xs ++ n ∷ []) (map-id (range_with_len 0 n))

-- one more number is counted, or isn't
pub counted_yes : (p : ℕ → Bool) (n count : ℕ) → count ≡ count_by p (range_with_len 0 n) → p n ≡ true → count + 1 ≡ count_by p (range_with_len 0 (n + 1))
counted_yes p n count is here =
    let more : count_by p (range_with_len 0 (n + 1)) ≡ count_by p (range_with_len 0 n ++ n ∷ []) = ap (count_by p) (range_more n) in
    omega (arith, sum_by_push (λ k. cond (p k) 1 0) (range_with_len 0 n) n, cond-true {A = ℕ} (p n) 1 0 here)

pub counted_no : (p : ℕ → Bool) (n count : ℕ) → count ≡ count_by p (range_with_len 0 n) → p n ≡ false → count ≡ count_by p (range_with_len 0 (n + 1))
counted_no p n count is gone =
    let more : count_by p (range_with_len 0 (n + 1)) ≡ count_by p (range_with_len 0 n ++ n ∷ []) = ap (count_by p) (range_more n) in
    omega (arith, sum_by_push (λ k. cond (p k) 1 0) (range_with_len 0 n) n, cond-false {A = ℕ} (p n) 1 0 gone)

pub counted_within : (p : ℕ → Bool) (n : ℕ) → count_by p (range_with_len 0 n) ≤ n
counted_within p n = omega (arith, count_by-le-length p (range_with_len 0 n), length-range_with_len 0 n)
