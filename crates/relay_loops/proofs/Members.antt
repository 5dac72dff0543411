-- Which elements a list made of others has.
use Rattle.std.proofs.Common.{◌≡◌, ◌⊎◌, ℕ, ◌<◌, Bool, true, false, List, [], ◌∷◌, length, get_or, map, refl, sym, ap, ◌∙◌, subst, arith, zero, suc, inl, inr}
use Rattle.std.specs.List.{Contains, filter, flat_map, list_any}
use Rattle.std.proofs.lemmas.Bool.Decides.{eqb_tells}
use Rattle.std.proofs.lemmas.Bool.{cases_Bool, cond-true, cond-false}
use Rattle.std.proofs.lemmas.List.Elements.{Contains-append_left, Contains-append_right, Contains-append_cases, All-contains, All-filter, All-contains_itself, filter_passes}

-- `Contains`, by recursion on the list
abbrev In : {X : Type 0} → List X → X → Type 0
In [] x = ⊥
In (y ∷ ys) x = (y ≡ x) ⊎ In ys x

in_at : {X : Type 0} (xs : List X) (k : ℕ) (x : X) → k < length xs → get_or xs k x ≡ x → In xs x
in_at [] k x b e = absurd (omega arith)
in_at (y ∷ ys) zero x b e = inl e
in_at (y ∷ ys) (suc k) x b e = inr (in_at ys k x (omega arith) e)

in_from : {X : Type 0} (xs : List X) (x : X) → Contains xs x → In xs x
in_from xs x c = in_at xs c.0 x c.1 c.2

contains_in : {X : Type 0} (xs : List X) (x : X) → In xs x → Contains xs x
contains_in [] x h = elim h [ ]
contains_in (y ∷ ys) x h =
    elim h [
      | inl e ↦ (0, omega arith, e)
      | inr later ↦
          let c = contains_in ys x later in
          let below : c.0 < length ys = c.1 in
          (suc c.0, omega arith, c.2)
    ]

in_map : {X Y : Type 0} (f : X → Y) (xs : List X) (x : X) → In xs x → In (map f xs) (f x)
in_map f [] x h = elim h [ ]
in_map f (y ∷ ys) x h = elim h [ inl e ↦ inl (ap f e) | inr later ↦ inr (in_map f ys x later) ]

in_from_map : {X Y : Type 0} (f : X → Y) (xs : List X) (y : Y) → In (map f xs) y → (x : X) × In xs x × (f x ≡ y)
in_from_map f [] y h = elim h [ ]
in_from_map f (x ∷ xs) y h =
    elim h [
      | inl e ↦ (x, inl refl, e)
      | inr later ↦
          let r = in_from_map f xs y later in
          (r.0, inr r.1, r.2)
    ]

in_filter : {X : Type 0} (p : X → Bool) (xs : List X) (x : X) → In xs x → p x ≡ true → In (filter p xs) x
in_filter p [] x h passes = elim h [ ]
in_filter p (y ∷ ys) x h passes =
    elim h [
      | inl e ↦
          let here : p y ≡ true = ap p e ∙ passes in
          subst (λ zs. In zs x) (sym (cond-true (p y) (y ∷ filter p ys) (filter p ys) here)) (inl e)
      | inr later ↦
          let r = in_filter p ys x later passes in
          elim (cases_Bool (p y)) [
            | inl kept ↦ subst (λ zs. In zs x) (sym (cond-true (p y) (y ∷ filter p ys) (filter p ys) kept)) (inr r)
            | inr left ↦ subst (λ zs. In zs x) (sym (cond-false (p y) (y ∷ filter p ys) (filter p ys) left)) r
          ]
    ]

pub Contains-map : {X Y : Type 0} (f : X → Y) (xs : List X) (x : X) → Contains xs x → Contains (map f xs) (f x)
Contains-map f xs x c = contains_in (map f xs) (f x) (in_map f xs x (in_from xs x c))

pub Contains-from_map : {X Y : Type 0} (f : X → Y) (xs : List X) (y : Y) → Contains (map f xs) y → (x : X) × Contains xs x × (f x ≡ y)
Contains-from_map f xs y c =
    let r = in_from_map f xs y (in_from (map f xs) y c) in
    (r.0, contains_in xs r.0 r.1, r.2)

pub Contains-filter : {X : Type 0} (p : X → Bool) (xs : List X) (x : X) → Contains xs x → p x ≡ true → Contains (filter p xs) x
Contains-filter p xs x c passes = contains_in (filter p xs) x (in_filter p xs x (in_from xs x c) passes)

pub Contains-from_filter : {X : Type 0} (p : X → Bool) (xs : List X) (x : X) → Contains (filter p xs) x → Contains xs x × (p x ≡ true)
Contains-from_filter p xs x c =
    (All-contains (Contains xs) (filter p xs) x (All-filter p (Contains xs) xs (All-contains_itself xs)) c, All-contains (λ y. p y ≡ true) (filter p xs) x (filter_passes p xs) c)

in_flat_map : {X Y : Type 0} (f : X → List Y) (xs : List X) (x : X) (y : Y) → In xs x → Contains (f x) y → Contains (flat_map f xs) y
in_flat_map f [] x y h c = elim h [ ]
in_flat_map f (z ∷ zs) x y h c =
    elim h [
      | inl e ↦ Contains-append_left (f z) (flat_map f zs) y (subst (λ w. Contains (f w) y) (sym e) c)
      | inr later ↦ Contains-append_right (f z) (flat_map f zs) y (in_flat_map f zs x y later c)
    ]

pub Contains-flat_map : {X Y : Type 0} (f : X → List Y) (xs : List X) (x : X) (y : Y) → Contains xs x → Contains (f x) y → Contains (flat_map f xs) y
Contains-flat_map f xs x y c = in_flat_map f xs x y (in_from xs x c)

pub Contains-from_flat_map : {X Y : Type 0} (f : X → List Y) (xs : List X) (y : Y) → Contains (flat_map f xs) y → (x : X) × Contains xs x × Contains (f x) y
Contains-from_flat_map f [] y c = absurd (omega (arith, c.1))
Contains-from_flat_map f (x ∷ xs) y c =
    elim (Contains-append_cases (f x) (flat_map f xs) y c) [
      | inl here ↦ (x, contains_in (x ∷ xs) x (inl refl), here)
      | inr later ↦
          let r = Contains-from_flat_map f xs y later in
          (r.0, contains_in (x ∷ xs) r.0 (inr (in_from xs r.0 r.1)), r.2)
    ]

in_dec : (xs : List ℕ) (n : ℕ) → In xs n ⊎ ¬ In xs n
in_dec [] n = inr (λ h. elim h [ ])
in_dec (x ∷ xs) n =
    elim (eqb_tells x n) [
      | inl same ↦ inl (inl same.1)
      | inr differ ↦
          elim (in_dec xs n) [
            | inl later ↦ inl (inr later)
            | inr absent ↦ inr (λ h. elim h [ inl e ↦ differ.1 e | inr later ↦ absent later ])
          ]
    ]

pub contains_dec : (xs : List ℕ) (n : ℕ) → Contains xs n ⊎ ¬ Contains xs n
contains_dec xs n = elim (in_dec xs n) [ inl h ↦ inl (contains_in xs n h) | inr absent ↦ inr (λ c. absent (in_from xs n c)) ]

in_any : {X : Type 0} (p : X → Bool) (xs : List X) (x : X) → In xs x → p x ≡ true → list_any p xs ≡ true
in_any p [] x h passes = elim h [ ]
in_any p (y ∷ ys) x h passes =
    elim h [
      | inl e ↦ let here : p y ≡ true = ap p e ∙ passes in rw here
      | inr later ↦
          let r = in_any p ys x later passes in
          elim (cases_Bool (p y)) [ inl here ↦ rw here | inr other ↦ rw other r ]
    ]

-- where no element passes, each fails
pub none_passes : {X : Type 0} (p : X → Bool) (xs : List X) (x : X) → list_any p xs ≡ false → Contains xs x → p x ≡ true → ⊥
none_passes p xs x none c passes = let some_one = in_any p xs x (in_from xs x c) passes in cc

pub some_passes : {X : Type 0} (p : X → Bool) (xs : List X) (x : X) → Contains xs x → p x ≡ true → list_any p xs ≡ true
some_passes p xs x c passes = in_any p xs x (in_from xs x c) passes

pub passes_some : {X : Type 0} (p : X → Bool) (xs : List X) → list_any p xs ≡ true → (x : X) × Contains xs x × (p x ≡ true)
passes_some p [] h = cc
passes_some p (x ∷ xs) h =
    elim (cases_Bool (p x)) [
      | inl here ↦ (x, contains_in (x ∷ xs) x (inl refl), here)
      | inr other ↦
          let r = passes_some p xs (rw other at h) in
          (r.0, contains_in (x ∷ xs) r.0 (inr (in_from xs r.0 r.1)), r.2)
    ]
