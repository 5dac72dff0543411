-- Lists of keys: what stands in them, and keys that differ.
use Rattle.std.proofs.Common.{◌≡◌, ◌≢◌, ℕ, suc, ◌+◌, ◌<◌, ◌≤◌, Bool, true, false, cond, map, List, [], ◌∷◌, ◌++◌, length, get_or, take, slice_get, Some, append_assoc, arith, sym, refl, ap, ◌∙◌, subst, inl, inr, ⊎_elim}
use Rattle.std.specs.Prelude.{All, AllPairs, Contains, flat_map, filter, ◌⊎◌, ◌↔◌}
use Rattle.std.proofs.lemmas.Bool.{cases_eq, cond-true}
use Rattle.std.proofs.lemmas.Option.{slice_get_within, get_or_from_slice_get}
use Rattle.std.proofs.lemmas.List.{take_more, length-append}
use Rattle.std.proofs.lemmas.List.Kept.{AllPairs-cons}
use Rattle.std.proofs.lemmas.List.Elements.{All-append, All-contains, Contains-append_left, Contains-append_right, Contains-append_cases, Contains-push_cases, Contains-get_or}

pub nowhere : {X : Type 0} (x : X) → Contains [] x → ⊥
nowhere {X} x h = let below : h.0 < length {A = X} [] = h.1 in omega arith

pub in_head : {X : Type 0} (y : X) (ys : List X) (x : X) → y ≡ x → Contains (y ∷ ys) x
in_head y ys x e = (0, omega arith, e)

pub in_tail : {X : Type 0} (y : X) (ys : List X) (x : X) → Contains ys x → Contains (y ∷ ys) x
in_tail y ys x h = Contains-append_right (y ∷ []) ys x h

pub cons_cases : {X : Type 0} (y : X) (ys : List X) (x : X) → Contains (y ∷ ys) x → (y ≡ x) ⊎ Contains ys x
cons_cases y ys x h =
    ⊎_elim
    (λ one. ⊎_elim (λ none. absurd (nowhere x none)) (λ e. inl e) (Contains-push_cases [] y x one))
    (λ rest. inr rest)
    (Contains-append_cases (y ∷ []) ys x h)

-- a key stands in a list or does not
pub present : (xs : List ℕ) (x : ℕ) → Contains xs x ⊎ (Contains xs x → ⊥)
present [] x = inr (nowhere x)
present (y ∷ ys) x =
    ⊎_elim
    (λ e. inl (in_head y ys x e))
    (λ other. ⊎_elim
    (λ on. inl (in_tail y ys x on))
    (λ off. inr (λ h. ⊎_elim other off (cons_cases y ys x h)))
    (present ys x))
    (cases_eq y x)

pub in_flat_map : {X Y : Type 0} (f : X → List Y) (xs : List X) (x : X) (y : Y) → Contains xs x → Contains (f x) y → Contains (flat_map f xs) y
in_flat_map f [] x y on here = absurd (nowhere x on)
in_flat_map f (z ∷ zs) x y on here =
    ⊎_elim
    (λ e. Contains-append_left (f z) (flat_map f zs) y (subst (λ k. Contains (f k) y) (sym e) here))
    (λ rest. Contains-append_right (f z) (flat_map f zs) y (in_flat_map f zs x y rest here))
    (cons_cases z zs x on)

pub from_flat_map : {X Y : Type 0} (f : X → List Y) (xs : List X) (y : Y) → Contains (flat_map f xs) y → (x : X) × Contains xs x × Contains (f x) y
from_flat_map f [] y h = absurd (nowhere y h)
from_flat_map f (z ∷ zs) y h =
    ⊎_elim
    (λ first. (z, in_head z zs z refl, first))
    (λ rest. let w = from_flat_map f zs y rest in (w.0, in_tail z zs w.0 w.1, w.2))
    (Contains-append_cases (f z) (flat_map f zs) y h)

pub all_of : {X : Type 0} (P : X → Type 0) (xs : List X) → ((x : X) → Contains xs x → P x) → All P xs
all_of P xs each = λ k d below. each (get_or xs k d) (Contains-get_or xs k d below)

first_of : {X : Type 0} (R : X → X → Type 0) (x : X) (xs : List X) → AllPairs R (x ∷ xs) → All (R x) xs
first_of R x xs apart k d below = apart 0 (suc k) d (omega arith) (omega arith)

pub rest_of : {X : Type 0} (R : X → X → Type 0) (x : X) (xs : List X) → AllPairs R (x ∷ xs) → AllPairs R xs
rest_of R x xs apart i j d before below = apart (suc i) (suc j) d (omega arith) (omega arith)

-- two lists, each element of the first related to each of the second
pub pairs_both : {X : Type 0} (R : X → X → Type 0) (xs ys : List X) → AllPairs R xs → AllPairs R ys → ((x y : X) → Contains xs x → Contains ys y → R x y) → AllPairs R (xs ++ ys)
pairs_both R [] ys first second across = second
pairs_both R (x ∷ xs) ys first second across =
    AllPairs-cons R x (xs ++ ys)
    (All-append (R x) xs ys (first_of R x xs first) (all_of (R x) ys (λ y on. across x y (in_head x xs x refl) on)))
    (pairs_both R xs ys (rest_of R x xs first) second (λ a b ina inb. across a b (in_tail x xs a ina) inb))

-- distinct keys, and distinct others behind them
pub distinct_both : (xs ys : List ℕ) → AllPairs (λ a b. a ≢ b) xs → AllPairs (λ a b. a ≢ b) ys → ((x : ℕ) → Contains xs x → Contains ys x → ⊥)
    → AllPairs (λ a b. a ≢ b) (xs ++ ys)
distinct_both xs ys first second apart = pairs_both (λ a b. a ≢ b) xs ys first second (λ x y inx iny e. apart x inx (subst (λ (k : ℕ). Contains ys k) (sym e) iny))

-- lists one after another
pub pairs_flat : {X Y : Type 0} (R : Y → Y → Type 0) (f : X → List Y) (xs : List X) → ((x : X) → Contains xs x → AllPairs R (f x))
    → AllPairs (λ a b. (k l : Y) → Contains (f a) k → Contains (f b) l → R k l) xs → AllPairs R (flat_map f xs)
pairs_flat R f [] each across = λ i j d before below. absurd (omega arith)
pairs_flat {X} {Y} R f (x ∷ xs) each across =
    let S : X → X → Type 0 = λ a b. (k l : Y) → Contains (f a) k → Contains (f b) l → R k l in
    pairs_both R (f x) (flat_map f xs) (each x (in_head x xs x refl)) (pairs_flat R f xs (λ y on. each y (in_tail x xs y on)) (rest_of S x xs across))
    (λ k l ink inl. let p = from_flat_map f xs l inl in All-contains (S x) xs p.0 (first_of S x xs across) p.1 k l ink p.2)

pub in_map : {X Y : Type 0} (f : X → Y) (xs : List X) (x : X) → Contains xs x → Contains (map f xs) (f x)
in_map f [] x on = absurd (nowhere x on)
in_map f (y ∷ ys) x on =
    ⊎_elim
    (λ e. in_head (f y) (map f ys) (f x) (ap f e))
    (λ rest. in_tail (f y) (map f ys) (f x) (in_map f ys x rest))
    (cons_cases y ys x on)

pub from_map : {X Y : Type 0} (f : X → Y) (xs : List X) (y : Y) → Contains (map f xs) y → (x : X) × Contains xs x × (f x ≡ y)
from_map f [] y on = absurd (nowhere y on)
from_map f (x ∷ xs) y on =
    ⊎_elim
    (λ e. (x, in_head x xs x refl, e))
    (λ rest. let w = from_map f xs y rest in (w.0, in_tail x xs w.0 w.1, w.2))
    (cons_cases (f x) (map f xs) y on)

pub pairs_map : {X Y : Type 0} (R : Y → Y → Type 0) (f : X → Y) (xs : List X) → AllPairs (λ a b. R (f a) (f b)) xs → AllPairs R (map f xs)
pairs_map R f [] apart = λ i j d before below. absurd (omega arith)
pairs_map {X} R f (x ∷ xs) apart =
    let S : X → X → Type 0 = λ a b. R (f a) (f b) in
    AllPairs-cons R (f x) (map f xs)
    (all_of (R (f x)) (map f xs) (λ y on. let w = from_map f xs y on in subst (R (f x)) w.2 (All-contains (S x) xs w.0 (first_of S x xs apart) w.1)))
    (pairs_map R f xs (rest_of S x xs apart))

pub filter_in : {X : Type 0} (p : X → Bool) (xs : List X) (k : X) → Contains xs k → p k ≡ true → Contains (filter p xs) k
filter_in p [] k on passes = on
filter_in {X} p (x ∷ xs) k on passes =
    ⊎_elim
    (λ e. subst (λ (ys : List X). Contains ys k) (sym (cond-true _ _ _ (ap p e ∙ passes))) (in_head x (filter p xs) k e))
    (λ rest. step (p x) (filter_in p xs k rest passes))
    (cons_cases x xs k on)
  where
    step : (b : Bool) → Contains (filter p xs) k → Contains (cond b (x ∷ filter p xs) (filter p xs)) k
    step true there = in_tail x (filter p xs) k there
    step false there = there

pub filter_from : {X : Type 0} (p : X → Bool) (xs : List X) (k : X) → Contains (filter p xs) k → Contains xs k × (p k ≡ true)
filter_from p [] k on = absurd (nowhere k on)
filter_from p (x ∷ xs) k on = step (p x) refl (filter_from p xs k) on
  where
    step : (b : Bool) → p x ≡ b → (Contains (filter p xs) k → Contains xs k × (p k ≡ true)) → Contains (cond b (x ∷ filter p xs) (filter p xs)) k → Contains (x ∷ xs) k × (p k ≡ true)
    step true is rest there =
        ⊎_elim
        (λ e. (in_head x xs k e, ap p (sym e) ∙ is))
        (λ more. let w = rest more in (in_tail x xs k w.0, w.1))
        (cons_cases x (filter p xs) k there)
    step false is rest there = let w = rest there in (in_tail x xs k w.0, w.1)

-- a list without the element at a place
split_at : {X : Type 0} (ys : List X) (x : X) → Contains ys x → (before after : List X) × (ys ≡ before ++ x ∷ after)
split_at [] x on = absurd (nowhere x on)
split_at {X} (y ∷ ys) x on =
    ⊎_elim
    (λ e. ([], ys, ap (λ (z : X). z ∷ ys) e))
    (λ rest. let w = split_at ys x rest in (y ∷ w.0, w.1, ap (λ (zs : List X). y ∷ zs) w.2))
    (cons_cases y ys x on)

-- distinct keys that all stand in another list are no more than it has
pub no_longer : (xs ys : List ℕ) → AllPairs (λ a b. a ≢ b) xs → ((x : ℕ) → Contains xs x → Contains ys x) → length xs ≤ length ys
no_longer [] ys distinct into = omega arith
no_longer (x ∷ xs) ys distinct into =
    let w = split_at ys x (into x (in_head x xs x refl)) in
    let before : List ℕ = w.0 in
    let after : List ℕ = w.1 in
    let rest : length xs ≤ length (before ++ after) = no_longer xs (before ++ after) (rest_of (λ a b. a ≢ b) x xs distinct) (λ k on.
    let other : x ≢ k = All-contains (λ y. x ≢ y) xs k (first_of (λ a b. a ≢ b) x xs distinct) on in
    ⊎_elim
    (λ l. Contains-append_left before after k l)
    (λ r. ⊎_elim (λ e. absurd (other e)) (λ l. Contains-append_right before after k l) (cons_cases x after k r))
    (Contains-append_cases before (x ∷ after) k (subst (λ (zs : List ℕ). Contains zs k) w.2 (into k (in_tail x xs k on))))) in
    let one = length-append before after in
    let two = length-append before (x ∷ after) in
    let size : length ys ≡ length (before ++ x ∷ after) = ap length w.2 in
    omega arith

-- the same distinct keys are as many
pub as_many : (xs ys : List ℕ) → AllPairs (λ a b. a ≢ b) xs → AllPairs (λ a b. a ≢ b) ys → ((x : ℕ) → Contains xs x ↔ Contains ys x) → length xs ≡ length ys
as_many xs ys dx dy same = let a = no_longer xs ys dx (λ x. (same x).0) in let b = no_longer ys xs dy (λ x. (same x).1) in omega arith

-- one more of the next keys was put behind what was there
pub next_pushed : (old keys before after : List ℕ) (i key : ℕ) → after ≡ before ++ key ∷ [] → before ≡ old ++ take i keys → slice_get keys i ≡ Some key → after ≡ old ++ take (i + 1) keys
next_pushed old keys before after i key more is at =
    let below : i < length keys = slice_get_within keys i key at in
    let here : take i keys ++ key ∷ [] ≡ take (i + 1) keys = ap (λ (k : ℕ). take i keys ++ k ∷ []) (sym (get_or_from_slice_get keys i key key at)) ∙ sym (take_more keys i key below) in
    more ∙ ap (λ (xs : List ℕ). xs ++ key ∷ []) is ∙ append_assoc old (take i keys) (key ∷ []) ∙ ap (λ (xs : List ℕ). old ++ xs) here
