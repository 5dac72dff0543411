-- Lists: their elements, their parts, and a counterpart for each element.
use Rattle.std.proofs.Common.{◌≡◌, ◌⊎◌, ℕ, ◌*◌, ◌<◌, List, [], ◌∷◌, ◌++◌, length, get_or, map, take, drop, refl, sym, ap, ◌∙◌, subst, arith, zero, suc, inl, inr}
use Rattle.std.specs.List.{All, Contains, flat_map, range_with_len}
use Rattle.std.proofs.lemmas.List.{length-map, take-map, drop-map, map-append}
use Rattle.std.proofs.lemmas.List.Elements.{All-head, All-tail, Contains-append_cases, Contains-push_cases}
use Rattle.relay_rings.specs.Batches.{part_count, parts_of}
use Rattle.relay_rings.proofs.Parts.{part_at, part_at_is}

pub head : {X : Type 0} (x : X) (xs : List X) → Contains (x ∷ xs) x
head x xs =
    let b : 0 < length (x ∷ xs) = omega arith in
    (0, b, refl)

pub later : {X : Type 0} (x : X) (xs : List X) (z : X) → Contains xs z → Contains (x ∷ xs) z
later x xs z c =
    let below : c.0 < length xs = c.1 in
    (suc c.0, omega arith, c.2)

pub none_in : {X : Type 0} (x : X) → Contains [] x → ⊥
none_in {X} x c =
    let below : c.0 < length {A = X} [] = c.1 in
    omega arith

pub cons_cases : {X : Type 0} (x : X) (xs : List X) (z : X) → Contains (x ∷ xs) z → (x ≡ z) ⊎ Contains xs z
cons_cases x xs z c =
    elim (Contains-append_cases (x ∷ []) xs z c) [
      | inl one ↦ elim (Contains-push_cases [] x z one) [ inl none ↦ absurd (none_in z none) | inr e ↦ inl e ]
      | inr more ↦ inr more
    ]

-- two functions that agree on a list's elements
pub map_agree : {X Y : Type 0} (f g : X → Y) (xs : List X) → All (λ x. f x ≡ g x) xs → map f xs ≡ map g xs
map_agree f g [] h = refl
map_agree f g (x ∷ xs) h =
    ap (λ y. y ∷ map f xs) (All-head (λ z. f z ≡ g z) x xs h)
    ∙ ap (λ ys. g x ∷ ys) (map_agree f g xs (All-tail (λ z. f z ≡ g z) x xs h))

-- two lists whose elements give the same, each at its place
pub same_maps : {X Y Z : Type 0} (f : X → Z) (g : Y → Z) (xs : List X) (ys : List Y) → length ys ≡ length xs → ((k : ℕ) (x : X) (y : Y) → k < length xs → g (get_or ys k y) ≡ f (get_or xs k x)) → map g ys ≡ map f xs
same_maps f g [] [] long each = refl
same_maps f g [] (y ∷ ys) long each = absurd (omega (arith, long))
same_maps f g (x ∷ xs) [] long each = absurd (omega (arith, long))
same_maps f g (x ∷ xs) (y ∷ ys) long each =
    ap (λ z. z ∷ map g ys) (each zero x y (omega arith))
    ∙ ap (λ zs. f x ∷ zs) (same_maps f g xs ys (omega (arith, long)) (λ k d e inside. each (suc k) d e (omega (arith, inside))))

pub map_twice : {X Y Z : Type 0} (f : Y → Z) (g : X → Y) (xs : List X) → map f (map g xs) ≡ map (λ x. f (g x)) xs
map_twice f g [] = refl
map_twice f g (x ∷ xs) = ap (λ zs. f (g x) ∷ zs) (map_twice f g xs)

pub flat_map_agree : {X Y : Type 0} (f g : X → List Y) (xs : List X) → All (λ x. f x ≡ g x) xs → flat_map f xs ≡ flat_map g xs
flat_map_agree f g [] h = refl
flat_map_agree f g (x ∷ xs) h =
    ap (λ ys. ys ++ flat_map f xs) (All-head (λ z. f z ≡ g z) x xs h)
    ∙ ap (λ ys. g x ++ ys) (flat_map_agree f g xs (All-tail (λ z. f z ≡ g z) x xs h))

pub map-flat_map : {X Y Z : Type 0} (f : Y → Z) (g : X → List Y) (xs : List X) → map f (flat_map g xs) ≡ flat_map (λ x. map f (g x)) xs
map-flat_map f g [] = refl
map-flat_map f g (x ∷ xs) = map-append f (g x) (flat_map g xs) ∙ ap (λ zs. map f (g x) ++ zs) (map-flat_map f g xs)

-- the parts of a list with a function over it
pub parts_of-map : {X Y : Type 0} (f : X → Y) (size : ℕ) (xs : List X) → parts_of size (map f xs) ≡ map (map f) (parts_of size xs)
parts_of-map f size xs =
    let places = range_with_len 0 (part_count (length xs) size) in
    let same : (k : ℕ) → part_at size (map f xs) k ≡ map f (part_at size xs k) = λ k.
    part_at_is size (map f xs) k ∙ ap (take size) (drop-map f (k * size) xs) ∙ take-map f size (drop (k * size) xs) ∙ sym (ap (map f) (part_at_is size xs k)) in
    ap (λ n. map (part_at size (map f xs)) (range_with_len 0 (part_count n size))) (length-map xs f)
    ∙ map_agree (part_at size (map f xs)) (λ k. map f (part_at size xs k)) places (λ i d b. same (get_or places i d))
    ∙ sym (map_twice (map f) (part_at size xs) places)

module _ {T U : Type 0} (R : T → U → Type 0) where
  -- a list with a counterpart for each element, and nothing else
  pub record AreCounterparts (ts : List T) : Type 0 where
    pub list : List U
    pub long : length list ≡ length ts
    pub back : (u : U) → Contains list u → (t : T) × Contains ts t × R t u
    pub there : (t : T) → Contains ts t → (u : U) × Contains list u × R t u

  pub counterparts : (ts : List T) → ((t : T) → Contains ts t → (u : U) × R t u) → AreCounterparts ts
  counterparts [] f = record { list = []; long = refl; back = λ u c. absurd (none_in u c); there = λ t c. absurd (none_in t c) }
  counterparts (t ∷ ts) f =
      let first = f t (head t ts) in
      let rest = counterparts ts (λ s c. f s (later t ts s c)) in
      let same : length rest.list ≡ length ts = rest.long in
      let u = first.0 in
      record {
        list = u ∷ rest.list;
        long = omega arith;
        back = λ v c.
            elim (cons_cases u rest.list v c) [
              | inl e ↦ (t, head t ts, subst (λ w. R t w) e first.1)
              | inr more ↦
                  let r = rest.back v more in
                  (r.0, later t ts r.0 r.1, r.2)
            ];
        there = λ s c.
            elim (cons_cases t ts s c) [
              | inl e ↦ (u, head u rest.list, subst (λ w. R w u) e first.1)
              | inr more ↦
                  let r = rest.there s more in
                  (r.0, later u rest.list r.0 r.1, r.2)
            ];
      }
