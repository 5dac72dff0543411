-- How often a number stands in a list, and lists with no number twice.
use Rattle.std.proofs.Common.{◌≡◌, ℕ, ◌+◌, ◌-◌, ◌*◌, ◌/◌, ◌<◌, ◌≤◌, cond, eqb, List, [], ◌∷◌, length, get_or, refl, ap, inl, inr, arith, suc}
use Rattle.std.specs.List.{All, AllPairs, Contains, count_by, sum_by}
use Rattle.std.proofs.lemmas.Bool.{cases_eq, eq-eqb, ne_eqb}
use Rattle.std.proofs.lemmas.List.Elements.{All-head, All-tail}
use Rattle.std.proofs.lemmas.List.Sums.{sum_by-cons, get_or-le-sum_by}
use Rattle.std.proofs.lemmas.Nat.{div_below}

-- each number is below all later ones
abbrev pub IsAscending : List ℕ → Type 0
IsAscending xs = AllPairs (λ x y. x < y) xs

pub ascending_head : (x : ℕ) (xs : List ℕ) → IsAscending (x ∷ xs) → All (λ y. x < y) xs
ascending_head x xs h k d b = h 0 (suc k) d (omega arith) (omega arith)

pub ascending_tail : (x : ℕ) (xs : List ℕ) → IsAscending (x ∷ xs) → IsAscending xs
ascending_tail x xs h i j d a b = h (suc i) (suc j) d (omega arith) (omega arith)

pub sum_by-all_le : {X : Type 0} (f g : X → ℕ) (xs : List X) → All (λ x. f x ≤ g x) xs → sum_by f xs ≤ sum_by g xs
sum_by-all_le f g [] h = omega arith
sum_by-all_le f g (x ∷ xs) h =
    let first : f x ≤ g x = All-head (λ y. f y ≤ g y) x xs h in
    let rest = sum_by-all_le f g xs (All-tail (λ y. f y ≤ g y) x xs h) in
    omega (arith, sum_by-cons f x xs, sum_by-cons g x xs)

pub sum_by-add : {X : Type 0} (f g : X → ℕ) (xs : List X) → sum_by (λ x. f x + g x) xs ≡ sum_by f xs + sum_by g xs
sum_by-add f g [] = omega arith
sum_by-add f g (x ∷ xs) =
    omega (arith, sum_by-cons (λ y. f y + g y) x xs, sum_by-cons f x xs, sum_by-cons g x xs, sum_by-add f g xs)

pub sum_by-none : {X : Type 0} (f : X → ℕ) (xs : List X) → All (λ x. f x ≡ 0) xs → sum_by f xs ≡ 0
sum_by-none f [] h = refl
sum_by-none f (x ∷ xs) h =
    let first : f x ≡ 0 = All-head (λ y. f y ≡ 0) x xs h in
    omega (arith, sum_by-cons f x xs, sum_by-none f xs (All-tail (λ y. f y ≡ 0) x xs h))

pub length-le-sum_by : {X : Type 0} (f : X → ℕ) (xs : List X) → All (λ x. 1 ≤ f x) xs → length xs ≤ sum_by f xs
length-le-sum_by f [] h = omega arith
length-le-sum_by f (x ∷ xs) h =
    let first : 1 ≤ f x = All-head (λ y. 1 ≤ f y) x xs h in
    omega (arith, sum_by-cons f x xs, length-le-sum_by f xs (All-tail (λ y. 1 ≤ f y) x xs h))

-- a number stands at most once in an ascending list
pub times_le_one : (x : ℕ) (ks : List ℕ) → IsAscending ks → sum_by (λ k. cond (eqb x k) 1 0) ks ≤ 1
times_le_one x [] h = omega arith
times_le_one x (k ∷ ks) h =
    elim (cases_eq x k) [
      | inl e ↦
          let above = ascending_head k ks h in
          let gone : sum_by (λ j. cond (eqb x j) 1 0) ks ≡ 0 =
          sum_by-none (λ j. cond (eqb x j) 1 0) ks (λ i d b. let far : k < get_or ks i d = above i d b in ap (λ t. cond {A = ℕ} t 1 0) (ne_eqb x (get_or ks i d) (λ same. omega arith))) in
          let here : cond {A = ℕ} (eqb x k) 1 0 ≡ 1 = ap (λ t. cond {A = ℕ} t 1 0) (eq-eqb x k e) in
          omega (arith, sum_by-cons (λ j. cond (eqb x j) 1 0) k ks)
      | inr n ↦
          let here : cond {A = ℕ} (eqb x k) 1 0 ≡ 0 = ap (λ t. cond {A = ℕ} t 1 0) (ne_eqb x k n) in
          omega (arith, sum_by-cons (λ j. cond (eqb x j) 1 0) k ks, times_le_one x ks (ascending_tail k ks h))
    ]

-- the counts of different keys add up to at most the whole
pub counts_le : {T : Type 0} (key : T → ℕ) (ks : List ℕ) → IsAscending ks → (ts : List T) → sum_by (λ k. count_by (λ t. eqb (key t) k) ts) ks ≤ length ts
counts_le key ks h [] = omega (arith, sum_by-none (λ k. count_by (λ t. eqb (key t) k) []) ks (λ _ _ _. refl))
counts_le key ks h (t ∷ ts) =
    let one = λ (k : ℕ). cond {A = ℕ} (eqb (key t) k) 1 0 in
    let rest = λ (k : ℕ). count_by (λ u. eqb (key u) k) ts in
    let split : sum_by (λ k. count_by (λ u. eqb (key u) k) (t ∷ ts)) ks ≤ sum_by (λ k. one k + rest k) ks =
    sum_by-all_le (λ k. count_by (λ u. eqb (key u) k) (t ∷ ts)) (λ k. one k + rest k) ks
    (λ i d b. omega (arith, sum_by-cons (λ u. cond {A = ℕ} (eqb (key u) (get_or ks i d)) 1 0) t ts)) in
    omega (arith, split, sum_by-add one rest ks, times_le_one (key t) ks h, counts_le key ks h ts)

-- a number that stands in a list is counted there
pub counted : (ys : List ℕ) (x : ℕ) → Contains ys x → 1 ≤ count_by (λ y. eqb y x) ys
counted ys x c =
    let here : cond {A = ℕ} (eqb (get_or ys c.0 x) x) 1 0 ≡ 1 = ap (λ t. cond {A = ℕ} t 1 0) (eq-eqb (get_or ys c.0 x) x c.2) in
    omega (arith, get_or-le-sum_by (λ y. cond {A = ℕ} (eqb y x) 1 0) ys c.0 x c.1)

-- an ascending list whose numbers all stand in another is no longer than it
pub covered_le : (xs ys : List ℕ) → IsAscending xs → All (λ x. Contains ys x) xs → length xs ≤ length ys
covered_le xs ys up all =
    omega (arith, length-le-sum_by (λ x. count_by (λ y. eqb y x) ys) xs (λ i d b. counted ys (get_or xs i d) (all i d b)), counts_le (λ y. y) xs up ys)

-- so many parts of at most `size` are enough
pub parts_le : (n size count : ℕ) → 0 < size → n ≤ count * size → (n + size - 1) / size ≤ count
parts_le n size count pos h =
    let below : n + size - 1 < (count + 1) * size = omega arith in
    let q : (n + size - 1) / size < count + 1 = div_below (n + size - 1) size (count + 1) pos below in
    omega arith
