-- Where each text stands first, as a sort by hash, bytes and place finds it.
use Rattle.std.proofs.Common.{◌≡◌, ◌≢◌, ◌⊎◌, ℕ, ◌+◌, ◌-◌, ◌<◌, ◌≤◌, true, false, List, [], ◌∷◌, length, get_or, map, refl, sym, ap, subst, ◌∙◌, arith, inl, inr, zero, suc}
use Rattle.std.specs.Prelude.{Contains, slice_set}
use Rattle.std.specs.Cmp.{IsTotalOrder, IsStrictWeakOrder}
use Rattle.std.specs.List.Sorted.{IsSorted, IsPermutation}
use Rattle.std.specs.Str.{bytes_eq}
use Rattle.std.specs.declared.cmp.Ordering.{Ordering}
use Rattle.std.specs.declared.cmp.Ordering.TheVariants.{Less, Equal, Greater}
use Rattle.std.specs.Ordering.{nat_cmp, is_lt, ordering_then, ordering_reverse, MatchOrdering}
use Rattle.std.specs.Cmp.Lexicographic.{slice_cmp}
use Rattle.std.proofs.lemmas.Bool.{true≢false, cases_lt}
use Rattle.std.proofs.lemmas.Cmp.{nat_cmp_total, nat_list_cmp_total, tied_itself, ranked}
use Rattle.std.proofs.lemmas.List.{get_or-map, get_or_default, same_lists, length-map, get_or-set_same, get_or-set_other, length-set}
use Rattle.std.proofs.lemmas.List.Elements.{Contains-get_or}
use Rattle.std.proofs.lemmas.List.Sorted.{sorted_far, ranks_by, Contains-permutation, IsPermutation-sym, length_permutation}
use Rattle.std.proofs.lemmas.List.Sums.{fails_before_first, passes_at_first}
use Rattle.std.proofs.lemmas.Map.Lookups.{exact_bytes}
use Rattle.std.proofs.lemmas.Slice.Eq.{bytes_eq-Decides}
use Rattle.relay_text.specs.HashedTexts.{text_hash}
use Rattle.relay_text.specs.FirstPlaces.{first_place, bytes_of, AreInPlace}
use Rattle.relay_text.specs.declared.hashed_text.HashedText.{HashedText}
use Rattle.relay_text.specs.contracts.hashed_text.HashedTextOrd.TheImpl.Laws.{total-law}

abbrev pub hashed_cmp : HashedText → HashedText → Ordering
hashed_cmp h g = ordering_then (nat_cmp h.hash g.hash) (ordering_then (slice_cmp nat_cmp h.bytes.now g.bytes.now) (nat_cmp h.place g.place))

-- the place at which the text of a place stands first
abbrev pub first_of_place : List (List ℕ) → ℕ → ℕ
first_of_place texts place = first_place texts (get_or texts place [])

total : IsTotalOrder hashed_cmp
total = total-law

order : IsStrictWeakOrder (λ h g. is_lt (hashed_cmp h g))
order = ranks_by total (λ h. h)

-- ---- neighbours in the order
unlike : (o : Ordering) → is_lt (ordering_then Less o) ≡ false → ⊥
unlike o e = true≢false e

-- what stands between two texts with the same bytes has these bytes
between_bytes : (x z : List ℕ) → is_lt (slice_cmp nat_cmp z x) ≡ false → is_lt (slice_cmp nat_cmp x z) ≡ false → z ≡ x
between_bytes x z h g = at (slice_cmp nat_cmp z x) (slice_cmp nat_cmp x z) refl (nat_list_cmp_total.antisymm x z) h g where
  at : (o p : Ordering) → slice_cmp nat_cmp z x ≡ o → p ≡ ordering_reverse (slice_cmp nat_cmp z x) → is_lt o ≡ false → is_lt p ≡ false → z ≡ x
  at Less p e r h g = absurd (true≢false h)
  at Equal p e r h g = exact_bytes z x e
  at Greater p e r h g = absurd (true≢false (sym (ap is_lt (r ∙ ap ordering_reverse e)) ∙ g))

module _ (x y z : HashedText) (h : y.hash ≡ x.hash) (b : y.bytes.now ≡ x.bytes.now) where
  between : is_lt (hashed_cmp z y) ≡ false → is_lt (hashed_cmp x z) ≡ false → z.bytes.now ≡ x.bytes.now
  between low high = at (nat_cmp z.hash x.hash) (nat_cmp x.hash z.hash) (ranked z.hash x.hash _ refl) (ranked x.hash z.hash _ refl) low' high where
    low' : is_lt (ordering_then (nat_cmp z.hash x.hash) (ordering_then (slice_cmp nat_cmp z.bytes.now x.bytes.now) (nat_cmp z.place y.place))) ≡ false
    low' = ap (λ n. is_lt (ordering_then (nat_cmp z.hash n) (ordering_then (slice_cmp nat_cmp z.bytes.now x.bytes.now) (nat_cmp z.place y.place)))) (sym h)
        ∙ ap (λ t. is_lt (ordering_then (nat_cmp z.hash y.hash) (ordering_then (slice_cmp nat_cmp z.bytes.now t) (nat_cmp z.place y.place)))) (sym b) ∙ low

    inner : (o p : Ordering) → is_lt (ordering_then o p) ≡ false → is_lt o ≡ false
    inner Less p e = e
    inner Equal p e = refl
    inner Greater p e = refl

    at : (o p : Ordering) → MatchOrdering o (z.hash < x.hash) (z.hash ≡ x.hash) (x.hash < z.hash) → MatchOrdering p (x.hash < z.hash) (x.hash ≡ z.hash) (z.hash < x.hash)
        → is_lt (ordering_then o (ordering_then (slice_cmp nat_cmp z.bytes.now x.bytes.now) (nat_cmp z.place y.place))) ≡ false
        → is_lt (ordering_then p (ordering_then (slice_cmp nat_cmp x.bytes.now z.bytes.now) (nat_cmp x.place z.place))) ≡ false → z.bytes.now ≡ x.bytes.now
    at Less p m n e f = absurd (true≢false e)
    at Equal Less m n e f = absurd (true≢false f)
    at Equal Equal m n e f = between_bytes x.bytes.now z.bytes.now (inner _ _ e) (inner _ _ f)
    at Equal Greater m n e f = absurd (omega (arith, m, n))
    at Greater Less m n e f = absurd (true≢false f)
    at Greater Equal m n e f = absurd (omega (arith, m, n))
    at Greater Greater m n e f = absurd (omega (arith, m, n))

same_hash : (x y : HashedText) → y.bytes.now ≡ x.bytes.now → y.hash ≡ x.hash
same_hash x y b = y.hash_of_bytes ∙ ap text_hash b ∙ sym x.hash_of_bytes

sooner : (x y : HashedText) → y.bytes.now ≡ x.bytes.now → y.place < x.place → is_lt (hashed_cmp y x) ≡ true
sooner x y b less =
    ap (λ n. is_lt (ordering_then (nat_cmp n x.hash) (ordering_then (slice_cmp nat_cmp y.bytes.now x.bytes.now) (nat_cmp y.place x.place)))) (same_hash x y b)
    ∙ ap (λ o. is_lt (ordering_then o (ordering_then (slice_cmp nat_cmp y.bytes.now x.bytes.now) (nat_cmp y.place x.place)))) (tied_itself nat_cmp_total x.hash)
    ∙ ap (λ t. is_lt (ordering_then (slice_cmp nat_cmp t x.bytes.now) (nat_cmp y.place x.place))) b
    ∙ ap (λ o. is_lt (ordering_then o (nat_cmp y.place x.place))) (tied_itself nat_list_cmp_total x.bytes.now)
    ∙ lower (nat_cmp y.place x.place) (ranked y.place x.place _ refl) where
      lower : (o : Ordering) → MatchOrdering o (y.place < x.place) (y.place ≡ x.place) (x.place < y.place) → is_lt o ≡ true
      lower Less m = refl
      lower Equal m = absurd (omega (arith, m, less))
      lower Greater m = absurd (omega (arith, m, less))

-- ---- the texts in place, and sorted
pub record AreSorted (gathered sorted : List HashedText) : Type 0 where
  pub in_place : AreInPlace gathered
  pub moved : IsPermutation gathered sorted
  pub up : IsSorted hashed_cmp sorted

module _ (gathered sorted : List HashedText) (s : AreSorted gathered sorted) where
  among : (x : HashedText) → Contains sorted x → Contains gathered x
  among x has = Contains-permutation sorted gathered x (IsPermutation-sym gathered sorted s.moved) has

  placed : (x : HashedText) → Contains gathered x → (x.place < length gathered) × (get_or (bytes_of gathered) x.place [] ≡ x.bytes.now)
  placed x has =
      let k = has.0 in
      let here : x.place ≡ k = ap (λ (y : HashedText). y.place) (sym has.2) ∙ s.in_place k x has.1 in
      let inside : k < length gathered = has.1 in (
        omega (arith, here, inside),
        ap (λ n. get_or (bytes_of gathered) n []) here ∙ get_or-map (λ (y : HashedText). y.bytes.now) gathered k x [] has.1 ∙ ap (λ (y : HashedText). y.bytes.now) has.2,
      )

  pub place_within : (x : HashedText) → Contains sorted x → x.place < length sorted
  place_within x has = let p = placed x (among x has) in let long = length_permutation gathered sorted s.moved in let less : x.place < length gathered = p.0 in omega (arith, long, less)

  -- the first text with the bytes of x
  first_one : (x : HashedText) → Contains gathered x → (y : HashedText) × Contains gathered y × (y.bytes.now ≡ x.bytes.now) × (y.place ≡ first_of_place (bytes_of gathered) x.place) × (y.place ≤ x.place)
  first_one x has =
      let p = placed x has in
      let texts = bytes_of gathered in
      let n = first_place texts (get_or texts x.place []) in
      let long : length texts ≡ length gathered = length-map gathered (λ (y : HashedText). y.bytes.now) in
      let inside : x.place < length gathered = p.0 in
      let upto : n ≤ x.place =
      elim (cases_lt x.place n) [
        | inl over ↦ absurd (true≢false (sym ((bytes_eq-Decides (get_or texts x.place []) (get_or texts x.place [])).1 refl) ∙ fails_before_first (bytes_eq (get_or texts x.place [])) texts x.place [] over))
        | inr fine ↦ fine
      ] in
      let y = get_or gathered n x in
      let within : n < length gathered = omega (arith, upto, inside) in
      let passes : bytes_eq (get_or texts x.place []) (get_or texts n []) ≡ true = passes_at_first (bytes_eq (get_or texts x.place [])) texts [] (omega (arith, within, long)) in
      let is : y.bytes.now ≡ get_or texts n [] = sym (get_or-map (λ (y : HashedText). y.bytes.now) gathered n x [] within) in
      let here : y.place ≡ n = s.in_place n x within in
      (y, Contains-get_or gathered n x within, is ∙ sym ((bytes_eq-Decides _ _).0 passes) ∙ p.1, here, omega (arith, here, upto))

  -- a text whose neighbour before it has other bytes stands first
  pub stands_first : (i : ℕ) (d : HashedText) → i < length sorted → (i ≡ 0) ⊎ ((get_or sorted (i - 1) d).bytes.now ≢ (get_or sorted i d).bytes.now)
      → (get_or sorted i d).place ≡ first_of_place (bytes_of gathered) (get_or sorted i d).place
  stands_first i d inside fresh =
      let x = get_or sorted i d in
      let found = first_one x (among x (Contains-get_or sorted i d inside)) in
      let y = found.0 in
      let least : y.place ≤ x.place = found.4 in
      elim (cases_lt y.place x.place) [
        | inr past ↦ (let e : x.place ≡ y.place = omega (arith, least, past) in e ∙ found.3)
        | inl less ↦ absurd (not_sooner x refl y found.1 found.2 less)
      ] where
        not_sooner : (x : HashedText) → x ≡ get_or sorted i d → (y : HashedText) → Contains gathered y → y.bytes.now ≡ x.bytes.now → y.place < x.place → ⊥
        not_sooner x is y has b less =
            let there = Contains-permutation gathered sorted y s.moved has in
            let j = there.0 in
            let within : j < length sorted = there.1 in
            let goes : is_lt (hashed_cmp y x) ≡ true = sooner x y b less in
            let here : get_or sorted j y ≡ y = there.2 in
            elim (cases_lt j i) [
              | inr past ↦
                  (let at_i : get_or sorted i y ≡ x = get_or_default sorted i y d inside ∙ sym is in
                  let far : is_lt (hashed_cmp (get_or sorted j y) (get_or sorted i y)) ≡ false = sorted_far (λ h g. is_lt (hashed_cmp h g)) order sorted s.up i j y past within in
                  true≢false (sym goes ∙ sym (ap (λ h. is_lt (hashed_cmp h x)) here) ∙ sym (ap (λ g. is_lt (hashed_cmp (get_or sorted j y) g)) at_i) ∙ far))
              | inl before ↦
                  (let z = get_or sorted (i - 1) d in
                  let upto : j ≤ i - 1 = omega arith in
                  let behind : i - 1 < length sorted = omega arith in
                  let near : i - 1 ≤ i = omega arith in
                  let at_z : get_or sorted (i - 1) y ≡ z = get_or_default sorted (i - 1) y d behind in
                  let low : is_lt (hashed_cmp z y) ≡ false =
                  sym (ap (λ h. is_lt (hashed_cmp h y)) at_z) ∙ sym (ap (λ g. is_lt (hashed_cmp (get_or sorted (i - 1) y) g)) here)
                  ∙ sorted_far (λ h g. is_lt (hashed_cmp h g)) order sorted s.up j (i - 1) y upto behind in
                  let high : is_lt (hashed_cmp x z) ≡ false = ap (λ h. is_lt (hashed_cmp h z)) is ∙ sorted_far (λ h g. is_lt (hashed_cmp h g)) order sorted s.up (i - 1) i d near inside in
                  elim fresh [
                    | inl none ↦ omega (arith, none, before)
                    | inr apart ↦ apart (between x y z (same_hash x y b) b low high ∙ ap (λ (h : HashedText). h.bytes.now) is)
                  ])
            ]

  -- texts with the same bytes stand first at one place
  pub same_first : (x z : HashedText) → Contains sorted x → Contains sorted z → z.bytes.now ≡ x.bytes.now → first_of_place (bytes_of gathered) z.place ≡ first_of_place (bytes_of gathered) x.place
  same_first x z has too b = ap (first_place (bytes_of gathered)) ((placed z (among z too)).1 ∙ b ∙ sym (placed x (among x has)).1)

-- ---- the loop
-- the first places of the sorted texts so far, and that of the latest one
pub record AreFound (texts : List (List ℕ)) (sorted : List HashedText) (places : List ℕ) (first i : ℕ) : Type 0 where
  pub long : length places ≡ length sorted
  pub found : (j : ℕ) (d : HashedText) → j < i → get_or places (get_or sorted j d).place 0 ≡ first_of_place texts (get_or sorted j d).place
  pub latest : (d : HashedText) → 0 < i → first ≡ first_of_place texts (get_or sorted (i - 1) d).place

-- a text that is the first, or whose neighbour before it has other bytes, stands first
module _ (gathered sorted : List HashedText) (s : AreSorted gathered sorted) (i : ℕ) (x : HashedText) (inside : i < length sorted) (is : x ≡ get_or sorted i x) where
  pub has_text_at : Contains sorted x
  has_text_at = (i, inside, sym is)

  pub begun : i ≡ 0 → x.place ≡ first_of_place (bytes_of gathered) x.place
  begun none = subst (λ (h : HashedText). h.place ≡ first_of_place (bytes_of gathered) h.place) (sym is) (stands_first gathered sorted s i x inside (inl none))

  pub begun_anew : (z : HashedText) → z ≡ get_or sorted (i - 1) z → (x.bytes.now ≢ z.bytes.now) → x.place ≡ first_of_place (bytes_of gathered) x.place
  begun_anew z before apart =
      subst (λ (h : HashedText). h.place ≡ first_of_place (bytes_of gathered) h.place) (sym is)
      (stands_first gathered sorted s i x inside
      (inr (λ e. apart (ap (λ (h : HashedText). h.bytes.now) is ∙ sym e ∙ ap (λ (h : HashedText). h.bytes.now) (get_or_default sorted (i - 1) x z (omega (arith, inside)) ∙ sym before)))))

  pub kept_on : (z : HashedText) (places : List ℕ) (first : ℕ) → AreFound (bytes_of gathered) sorted places first i → 0 < i → z ≡ get_or sorted (i - 1) z → x.bytes.now ≡ z.bytes.now
      → first ≡ first_of_place (bytes_of gathered) x.place
  kept_on z places first f some before same =
      let within : i - 1 < length sorted = omega (arith, inside) in
      f.latest z some ∙ ap (λ (h : HashedText). first_of_place (bytes_of gathered) h.place) (sym before)
      ∙ same_first gathered sorted s x z has_text_at (i - 1, within, sym before) (sym same)

pub found_more : (texts : List (List ℕ)) (sorted : List HashedText) (places : List ℕ) (first next i : ℕ) (x : HashedText) → AreFound texts sorted places first i
    → i < length sorted → x ≡ get_or sorted i x → x.place < length sorted → next ≡ first_of_place texts x.place → AreFound texts sorted (slice_set places x.place next) next (i + 1)
found_more texts sorted places first next i x f inside is within new = record {
  long = length-set places x.place next ∙ f.long;
  found = λ j d before. elim (cases_lt j i) [ inl old ↦ kept j d old | inr late ↦ (let e : j ≡ i = omega (arith, before, late) in added j d e) ];
  latest = λ d some. new ∙ ap (λ k. first_of_place texts k) (at_place i d refl) ∙ ap (λ k. first_of_place texts (get_or sorted k d).place) (let e : i ≡ i + 1 - 1 = omega arith in e);
} where
  at_place : (j : ℕ) (d : HashedText) → j ≡ i → x.place ≡ (get_or sorted j d).place
  at_place j d e = ap (λ (h : HashedText). h.place) (is ∙ get_or_default sorted i x d inside ∙ ap (λ k. get_or sorted k d) (sym e))

  room : x.place < length places
  room = omega (arith, f.long, within)

  written : (p : ℕ) → p ≡ x.place → get_or (slice_set places x.place next) p 0 ≡ first_of_place texts p
  written p e = ap (λ k. get_or (slice_set places x.place next) k 0) e ∙ get_or-set_same places x.place next 0 room ∙ new ∙ ap (first_of_place texts) (sym e)

  added : (j : ℕ) (d : HashedText) → j ≡ i → get_or (slice_set places x.place next) (get_or sorted j d).place 0 ≡ first_of_place texts (get_or sorted j d).place
  added j d e = written (get_or sorted j d).place (sym (at_place j d e))

  kept : (j : ℕ) (d : HashedText) → j < i → get_or (slice_set places x.place next) (get_or sorted j d).place 0 ≡ first_of_place texts (get_or sorted j d).place
  kept j d before =
      let p = (get_or sorted j d).place in
      elim (cases_lt p x.place) [
        | inl less ↦ (let other : p ≢ x.place = omega (arith, less) in get_or-set_other places x.place p next 0 other ∙ f.found j d before)
        | inr more ↦
            elim (cases_lt x.place p) [
              | inl less ↦ (let other : p ≢ x.place = omega (arith, less) in get_or-set_other places x.place p next 0 other ∙ f.found j d before)
              | inr upto ↦ (let e : p ≡ x.place = omega (arith, more, upto) in written p e)
            ]
      ]

element : (xs : List HashedText) (k : ℕ) → k < length xs → (x : HashedText) × (get_or xs k x ≡ x)
element [] k inside = absurd (omega (arith, inside))
element (x ∷ xs) zero inside = (x, refl)
element (x ∷ xs) (suc k) inside = element xs k (omega (arith, inside))

pub found_all : (gathered sorted : List HashedText) (places : List ℕ) (first i : ℕ) → AreSorted gathered sorted → AreFound (bytes_of gathered) sorted places first i → length sorted ≤ i
    → places ≡ map (first_place (bytes_of gathered)) (bytes_of gathered)
found_all gathered sorted places first i s f past =
    let texts = bytes_of gathered in
    let many : length texts ≡ length gathered = length-map gathered (λ (y : HashedText). y.bytes.now) in
    let moved : length sorted ≡ length gathered = length_permutation gathered sorted s.moved in
    same_lists places (map (first_place texts) texts) (f.long ∙ moved ∙ sym many ∙ sym (length-map texts (first_place texts)))
    (λ k d inside.
    let within : k < length gathered = omega (arith, f.long, moved, inside) in
    let here = element gathered k within in
    let y = here.0 in
    let place : y.place ≡ k = ap (λ (h : HashedText). h.place) (sym here.1) ∙ s.in_place k y within in
    let there = Contains-permutation gathered sorted y s.moved (k, within, here.1) in
    let before : there.0 < i = (let less : there.0 < length sorted = there.1 in omega (arith, less, past)) in
    let at_y : (get_or sorted there.0 y).place ≡ k = ap (λ (h : HashedText). h.place) there.2 ∙ place in
    let found : get_or places k 0 ≡ first_of_place texts k =
    ap (λ n. get_or places n 0) (sym at_y) ∙ f.found there.0 y before ∙ ap (first_of_place texts) at_y in
    let among : k < length texts = omega (arith, many, within) in
    get_or_default places k d 0 inside ∙ found ∙ sym (get_or-map (first_place texts) texts k [] d among))
