-- The consecutive parts of a list.
use Rattle.std.proofs.Common.{◌≡◌, ℕ, ◌+◌, ◌-◌, ◌*◌, ◌/◌, ◌%◌, ◌<◌, ◌≤◌, List, [], ◌∷◌, length, get_or, map, take, drop, refl, sym, ap, ◌∙◌, arith, zero, suc, inl, inr}
use Rattle.std.specs.List.{Contains, range_with_len, slice_range}
use Rattle.std.proofs.lemmas.Bool.{cases_lt}
use Rattle.std.proofs.lemmas.List.{length-drop, length-take, drop-drop, get_or-take, get_or-drop}
use Rattle.std.proofs.lemmas.Nat.{div_below, le-div, div-add-mod', mod_below}
use Rattle.relay_rings.specs.Batches.{part_count, parts_of}
use Rattle.relay_rings.proofs.Members.{Contains-map, Contains-from_map}

pub part_count-zero : (size : ℕ) → 0 < size → part_count 0 size ≡ 0
part_count-zero size pos =
    let q : part_count 0 size < 1 = div_below (0 + size - 1) size 1 pos (omega arith) in
    omega arith

pub part_count-more : (n size : ℕ) → 0 < size → 0 < n → part_count n size ≡ suc (part_count (n - size) size)
part_count-more n size pos some =
    let a = n - size + size - 1 in
    let q = a / size in
    let whole : q * size + a % size ≡ a = div-add-mod' a size in
    let small : a % size < size = mod_below a size pos in
    elim (cases_lt n size) [
      | inl short ↦
          let none : part_count (n - size) size ≡ 0 = ap (λ m. part_count m size) (let e : n - size ≡ 0 = omega arith in e) ∙ part_count-zero size pos in
          let low : 1 ≤ part_count n size = le-div 1 (n + size - 1) size pos (omega arith) in
          let high : part_count n size < 2 = div_below (n + size - 1) size 2 pos (omega arith) in
          omega arith
      | inr long ↦
          let low : q + 1 ≤ part_count n size = le-div (q + 1) (n + size - 1) size pos (omega arith) in
          let high : part_count n size < q + 2 = div_below (n + size - 1) size (q + 2) pos (omega arith) in
          omega arith
    ]

-- so many parts are enough
pub part_count_enough : (n size : ℕ) → 0 < size → n ≤ part_count n size * size
part_count_enough n size pos =
    let whole = div-add-mod' (n + size - 1) size in
    let small = mod_below (n + size - 1) size pos in
    omega arith

map-range_shift : {Y : Type 0} (f g : ℕ → Y) (a n : ℕ) → ((k : ℕ) → f (k + 1) ≡ g k) → map f (range_with_len (a + 1) n) ≡ map g (range_with_len a n)
map-range_shift f g a zero h = refl
map-range_shift f g a (suc n) h = ap (λ y. y ∷ map f (range_with_len (a + 1 + 1) n)) (h a) ∙ ap (λ ys. g a ∷ ys) (map-range_shift f g (a + 1) n h)

-- the k-th part
abbrev pub part_at : {X : Type 0} → ℕ → List X → ℕ → List X
part_at size xs k = slice_range xs (k * size) (k * size + size)

pub part_at_is : {X : Type 0} (size : ℕ) (xs : List X) (k : ℕ) → part_at size xs k ≡ take size (drop (k * size) xs)
part_at_is size xs k =
    let e : k * size + size - k * size ≡ size = omega arith in
    ap (λ n. take n (drop (k * size) xs)) e

pub parts_of-nil : {X : Type 0} (size : ℕ) → 0 < size → parts_of {X = X} size [] ≡ []
parts_of-nil {X} size pos = ap (λ n. map (part_at {X = X} size []) (range_with_len 0 n)) (part_count-zero size pos)

pub parts_of-more : {X : Type 0} (size : ℕ) (xs : List X) → 0 < size → 0 < length xs → parts_of size xs ≡ take size xs ∷ parts_of size (drop size xs)
parts_of-more size xs pos some =
    let left = part_count (length xs - size) size in
    let first : part_at size xs 0 ≡ take size xs =
    let e : 0 * size ≡ 0 = omega arith in
    part_at_is size xs 0 ∙ ap (λ n. take size (drop n xs)) e in
    let others = map-range_shift (part_at size xs) (part_at size (drop size xs)) 0 left
    (λ k.
    let e : (k + 1) * size ≡ size + k * size = omega arith in
    part_at_is size xs (k + 1)
    ∙ ap (λ n. take size (drop n xs)) e
    ∙ sym (ap (take size) (drop-drop (k * size) size xs))
    ∙ sym (part_at_is size (drop size xs) k)) in
    ap (λ n. map (part_at size xs) (range_with_len 0 n)) (part_count-more (length xs) size pos some)
    ∙ ap (λ p. p ∷ map (part_at size xs) (range_with_len (0 + 1) left)) first
    ∙ ap (λ ps. take size xs ∷ ps) others
    ∙ ap (λ n. take size xs ∷ map (part_at size (drop size xs)) (range_with_len 0 (part_count n size))) (sym (length-drop size xs))

-- each part is within the size, and has elements of the list alone
pub part_within : {X : Type 0} (size : ℕ) (xs part : List X) → Contains (parts_of size xs) part → length part ≤ size
part_within size xs part c =
    let r = Contains-from_map (part_at size xs) (range_with_len 0 (part_count (length xs) size)) part c in
    let is : part ≡ take size (drop (r.0 * size) xs) = sym r.2 ∙ part_at_is size xs r.0 in
    omega (arith, ap length is, length-take size (drop (r.0 * size) xs))

pub part_from : {X : Type 0} (size : ℕ) (xs part : List X) (x : X) → Contains (parts_of size xs) part → Contains part x → Contains xs x
part_from size xs part x c has =
    let r = Contains-from_map (part_at size xs) (range_with_len 0 (part_count (length xs) size)) part c in
    let start = r.0 * size in
    let is : part ≡ take size (drop start xs) = sym r.2 ∙ part_at_is size xs r.0 in
    let k = has.0 in
    let below : k < length part = has.1 in
    let cut = length-take size (drop start xs) in
    let rest = length-drop start xs in
    let same = ap length is in
    let reads : get_or xs (start + k) x ≡ x =
    sym (get_or-drop start xs k x) ∙ sym (get_or-take size (drop start xs) k x (omega arith)) ∙ sym (ap (λ p. get_or p k x) is) ∙ has.2 in
    (start + k, omega arith, reads)

in_range : (a n k : ℕ) → a ≤ k → k < a + n → Contains (range_with_len a n) k
in_range a zero k low high = absurd (omega arith)
in_range a (suc n) k low high =
    elim (cases_lt a k) [
      | inl later ↦
          let r = in_range (a + 1) n k (omega arith) (omega arith) in
          let below : r.0 < length (range_with_len (a + 1) n) = r.1 in
          (suc r.0, omega arith, r.2)
      | inr here ↦
          let e : a ≡ k = omega arith in
          (0, omega arith, e)
    ]

-- each element of the list is in a part
pub part_of_each : {X : Type 0} (size : ℕ) (xs : List X) (x : X) → 0 < size → Contains xs x → (part : List X) × Contains (parts_of size xs) part × Contains part x
part_of_each size xs x pos has =
    let at = has.0 in
    let below : at < length xs = has.1 in
    let k = at / size in
    let start = k * size in
    let offset = at % size in
    let split : start + offset ≡ at = div-add-mod' at size in
    let short : offset < size = mod_below at size pos in
    let enough = part_count_enough (length xs) size pos in
    let early : k < part_count (length xs) size = div_below at size (part_count (length xs) size) pos (omega arith) in
    let part = part_at size xs k in
    let is = part_at_is size xs k in
    let cut = length-take size (drop start xs) in
    let rest = length-drop start xs in
    let same = ap length is in
    let long : offset < length part = omega arith in
    let reads : get_or part offset x ≡ x =
    ap (λ p. get_or p offset x) is ∙ get_or-take size (drop start xs) offset x short ∙ get_or-drop start xs offset x ∙ ap (λ n. get_or xs n x) split ∙ has.2 in
    (part, Contains-map (part_at size xs) (range_with_len 0 (part_count (length xs) size)) k (in_range 0 (part_count (length xs) size) k (omega arith) (omega arith)), (offset, long, reads))
