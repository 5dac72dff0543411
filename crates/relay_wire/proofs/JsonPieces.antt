-- Values with commas between them, put one behind another.
use Rattle.std.proofs.Common.{◌≡◌, ℕ, ◌+◌, ◌<◌, ◌≤◌, List, [], ◌∷◌, ◌++◌, length, take, map, get_or, ap, append_assoc, sym, ◌∙◌, refl, arith}
use Rattle.std.specs.List.{enumerate_from}
use Rattle.std.proofs.lemmas.List.{take_more, map-append, length-map, length-take}
use Rattle.std.proofs.lemmas.List.FromFn.{length-enumerate_from, get_or-enumerate_from}
use Rattle.std.proofs.lemmas.Bool.Decides.{nat_tests}
use Rattle.relay_wire.specs.Json.{comma_at, json_object, with_commas}
use Rattle.relay_wire.specs.PlanText.{line}

comma_is : (i : ℕ) → 0 < i → comma_at i ≡ 44 ∷ []
comma_is i h = grind (arith, nat_tests, h)

behind_some : (a : List ℕ) (xs : List (List ℕ)) (x : List ℕ) → with_commas ((a ∷ xs) ++ x ∷ []) ≡ with_commas (a ∷ xs) ++ 44 ∷ x
behind_some a [] x = refl
behind_some a (b ∷ xs) x = ap (λ (l : List ℕ). a ++ 44 ∷ l) (behind_some b xs x) ∙ sym (append_assoc a (44 ∷ with_commas (b ∷ xs)) (44 ∷ x))

one_behind : (xs : List (List ℕ)) (i : ℕ) (x : List ℕ) → length xs ≡ i → with_commas (xs ++ x ∷ []) ≡ (with_commas xs ++ comma_at i) ++ x
one_behind [] i x e = ap (λ (n : ℕ). comma_at n ++ x) e
one_behind (a ∷ xs) i x e =
    let some : 0 < i = omega arith in
    behind_some a xs x
    ∙ ap (λ (c : List ℕ). with_commas (a ∷ xs) ++ (c ++ x)) (sym (comma_is i some))
    ∙ sym (append_assoc (with_commas (a ∷ xs)) (comma_at i) x)

values_more : {X : Type 0} (f : X → List ℕ) (xs : List X) (i : ℕ) (d : X) → i < length xs → with_commas (map f (take (i + 1) xs)) ≡ (with_commas (map f (take i xs)) ++ comma_at i) ++ f (get_or xs i d)
values_more f xs i d h =
    let long : length (map f (take i xs)) ≡ i = length-map (take i xs) f ∙ omega (arith, length-take i xs) in
    rw (take_more xs i d h, map-append f (take i xs) (get_or xs i d ∷ [])) (one_behind (map f (take i xs)) i (f (get_or xs i d)) long)

-- one more value, behind its comma
pub values_step : {X : Type 0} (f : X → List ℕ) (out written comma new : List ℕ) (xs : List X) (i : ℕ) (d : X)
    → i < length xs
    → d ≡ get_or xs i d
    → written ≡ out ++ with_commas (map f (take i xs))
    → comma ≡ written ++ comma_at i
    → new ≡ comma ++ f d
    → new ≡ out ++ with_commas (map f (take (i + 1) xs))
values_step f out written comma new xs i d h at before between after =
    let value : f d ≡ f (get_or xs i d) = ap f at in
    let front = with_commas (map f (take i xs)) in
    after
    ∙ ap (λ (l : List ℕ). l ++ f d) (between ∙ ap (λ (l : List ℕ). l ++ comma_at i) before ∙ append_assoc out front (comma_at i))
    ∙ append_assoc out (front ++ comma_at i) (f d)
    ∙ ap (λ (l : List ℕ). out ++ l) (ap (λ (l : List ℕ). (front ++ comma_at i) ++ l) value ∙ sym (values_more f xs i d h))

-- one more value with its number
pub numbered_value_step : {X : Type 0} (f : ℕ → X → List ℕ) (out written comma new : List ℕ) (xs : List X) (i : ℕ) (d : X)
    → i < length xs
    → d ≡ get_or xs i d
    → written ≡ out ++ with_commas (map (λ t. f t.0 t.1) (take i (enumerate_from 1 xs)))
    → comma ≡ written ++ comma_at i
    → new ≡ comma ++ f (i + 1) d
    → new ≡ out ++ with_commas (map (λ t. f t.0 t.1) (take (i + 1) (enumerate_from 1 xs)))
numbered_value_step {X} f out written comma new xs i d h at before between after =
    let within : i < length (enumerate_from 1 xs) = rw (length-enumerate_from 1 xs) h in
    let next : i + 1 ≡ 1 + i = omega arith in
    let item : ℕ × X = (i + 1, d) in
    let is : item ≡ get_or (enumerate_from 1 xs) i item = ap (λ (n : ℕ). let p : ℕ × X = (n, d) in p) next ∙ ap (λ (t : X). let p : ℕ × X = (1 + i, t) in p) at ∙ sym (get_or-enumerate_from 1 xs i item h) in
    values_step (λ (t : ℕ × X). f t.0 t.1) out written comma new (enumerate_from 1 xs) i item within is before between after

-- one more member behind those of an object
pub member_behind : (out a : List ℕ) (xs : List (List ℕ)) (key value : List ℕ) → ((out ++ 123 ∷ with_commas (a ∷ xs)) ++ 44 ∷ key) ++ value ≡ out ++ 123 ∷ with_commas ((a ∷ xs) ++ (key ++ value) ∷ [])
member_behind out a xs key value =
    append_assoc (out ++ 123 ∷ with_commas (a ∷ xs)) (44 ∷ key) value
    ∙ append_assoc out (123 ∷ with_commas (a ∷ xs)) (44 ∷ (key ++ value))
    ∙ ap (λ (l : List ℕ). out ++ 123 ∷ l) (sym (behind_some a xs (key ++ value)))

-- an object of six members, put behind a text
pub six_members : (out a p b q c r d s e t f u : List ℕ)
    → ((((((((((((out ++ 123 ∷ a) ++ p) ++ 44 ∷ b) ++ q) ++ 44 ∷ c) ++ r) ++ 44 ∷ d) ++ s) ++ 44 ∷ e) ++ t) ++ 44 ∷ f) ++ u) ++ 125 ∷ []
    ≡ out ++ json_object ((a ++ p) ∷ (b ++ q) ∷ (c ++ r) ∷ (d ++ s) ∷ (e ++ t) ∷ (f ++ u) ∷ [])
six_members out a p b q c r d s e t f u =
    rw (
      append_assoc out (123 ∷ a) p,
      member_behind out (a ++ p) [] b q,
      member_behind out (a ++ p) ((b ++ q) ∷ []) c r,
      member_behind out (a ++ p) ((b ++ q) ∷ (c ++ r) ∷ []) d s,
      member_behind out (a ++ p) ((b ++ q) ∷ (c ++ r) ∷ (d ++ s) ∷ []) e t,
      member_behind out (a ++ p) ((b ++ q) ∷ (c ++ r) ∷ (d ++ s) ∷ (e ++ t) ∷ []) f u,
    )
    (append_assoc out (123 ∷ with_commas ((a ++ p) ∷ (b ++ q) ∷ (c ++ r) ∷ (d ++ s) ∷ (e ++ t) ∷ (f ++ u) ∷ [])) (125 ∷ []))

-- the end of an object on a line
pub object_line : (out a : List ℕ) (xs : List (List ℕ)) → (out ++ 123 ∷ with_commas (a ∷ xs)) ++ 125 ∷ 10 ∷ [] ≡ out ++ line (json_object (a ∷ xs))
object_line out a xs =
    let all : List ℕ = with_commas (a ∷ xs) in
    append_assoc out (123 ∷ all) (125 ∷ 10 ∷ []) ∙ ap (λ (l : List ℕ). out ++ 123 ∷ l) (sym (append_assoc all (125 ∷ []) (10 ∷ [])))

-- an object on a line, with two members behind the first two
pub four_members : (out a b c d : List ℕ)
    → ((((((out ++ 123 ∷ []) ++ with_commas (a ∷ b ∷ [])) ++ 44 ∷ []) ++ c) ++ 44 ∷ []) ++ d) ++ 125 ∷ 10 ∷ []
    ≡ out ++ line (json_object (a ∷ b ∷ c ∷ d ∷ []))
four_members out a b c d =
    rw (append_assoc out (123 ∷ []) (with_commas (a ∷ b ∷ [])), member_behind out a (b ∷ []) [] c, member_behind out a (b ∷ c ∷ []) [] d)
    (object_line out a (b ∷ c ∷ d ∷ []))
