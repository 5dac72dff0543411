-- Which elements a list has.
use Rattle.std.proofs.Common.{◌≡◌, ◌⊎◌, ℕ, ◌<◌, List, [], ◌∷◌, length, get_or, map, refl, ap, arith, zero, suc, inl, inr}
use Rattle.std.specs.List.{Contains}

-- `Contains`, by recursion on the list
abbrev pub In : {X : Type 0} → List X → X → Type 0
In [] x = ⊥
In (y ∷ ys) x = (y ≡ x) ⊎ In ys x

in_at : {X : Type 0} (xs : List X) (k : ℕ) (x : X) → k < length xs → get_or xs k x ≡ x → In xs x
in_at [] k x b e = absurd (omega arith)
in_at (y ∷ ys) zero x b e = inl e
in_at (y ∷ ys) (suc k) x b e = inr (in_at ys k x (omega arith) e)

pub in_from : {X : Type 0} (xs : List X) (x : X) → Contains xs x → In xs x
in_from xs x c = in_at xs c.0 x c.1 c.2

pub contains_in : {X : Type 0} (xs : List X) (x : X) → In xs x → Contains xs x
contains_in [] x h = elim h [ ]
contains_in (y ∷ ys) x h =
    elim h [
      | inl e ↦ (0, omega arith, e)
      | inr later ↦
          let c = contains_in ys x later in
          let below : c.0 < length ys = c.1 in
          (suc c.0, omega arith, c.2)
    ]

pub in_map : {X Y : Type 0} (f : X → Y) (xs : List X) (x : X) → In xs x → In (map f xs) (f x)
in_map f [] x h = elim h [ ]
in_map f (y ∷ ys) x h = elim h [ inl e ↦ inl (ap f e) | inr later ↦ inr (in_map f ys x later) ]

pub in_from_map : {X Y : Type 0} (f : X → Y) (xs : List X) (y : Y) → In (map f xs) y → (x : X) × In xs x × (f x ≡ y)
in_from_map f [] y h = elim h [ ]
in_from_map f (x ∷ xs) y h =
    elim h [
      | inl e ↦ (x, inl refl, e)
      | inr later ↦
          let r = in_from_map f xs y later in
          (r.0, inr r.1, r.2)
    ]

pub Contains-map : {X Y : Type 0} (f : X → Y) (xs : List X) (x : X) → Contains xs x → Contains (map f xs) (f x)
Contains-map f xs x c = contains_in (map f xs) (f x) (in_map f xs x (in_from xs x c))

pub Contains-from_map : {X Y : Type 0} (f : X → Y) (xs : List X) (y : Y) → Contains (map f xs) y → (x : X) × Contains xs x × (f x ≡ y)
Contains-from_map f xs y c =
    let r = in_from_map f xs y (in_from (map f xs) y c) in
    (r.0, contains_in xs r.0 r.1, r.2)
