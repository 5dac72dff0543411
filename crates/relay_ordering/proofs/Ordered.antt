-- Values that are sorted by the paths of their senders.
use denote.RattleType.{RattleType}
use Rattle.std.proofs.Common.{◌≡◌, ◌≢◌, ℕ, ◌<◌, Bool, true, false, suc, inl, inr, List, [], ◌∷◌, length, map, get_or, refl, sym, ap, ◌∙◌, subst, arith, length-append}
use Rattle.std.specs.Prelude.{◌↔◌, nat_eq, cond, IsTrue, IfSome, Option, Some, None, All, AllPairs, Contains}
use Rattle.std.specs.List.{AllByRecursion, IsDistinct, dedup, dedup_from}
use Rattle.std.specs.List.Sorted.{IsSorted, IsPermutation, IsStrictlySortedBy}
use Rattle.std.specs.declared.cmp.Ordering.{Ordering}
use Rattle.std.specs.declared.cmp.Ordering.TheVariants.{Less, Equal, Greater}
use Rattle.std.specs.Ordering.{nat_cmp, is_eq}
use Rattle.std.specs.Cmp.Lexicographic.{slice_cmp, pointwise}
use Rattle.std.proofs.lemmas.Bool.{cases_Bool}
use Rattle.std.proofs.lemmas.List.{length-map, get_or-map}
use Rattle.std.proofs.lemmas.List.Elements.{All-contains, Contains-get_or}
use Rattle.std.proofs.lemmas.List.Kept.{IsStrictlySortedBy-dedup}
use Rattle.std.proofs.lemmas.List.Sorted.{Contains-permutation, IsPermutation-sym}
use Rattle.std.proofs.lemmas.Map.Keys.{Less-from_sorted, IsDistinct-IsPermutation, IsDistinct-cons}
use Rattle.std.proofs.lemmas.Map.Lookups.{exact_bytes}
use Rattle.relay_text.specs.AddressParts.{AddressParts}
use Rattle.relay_text.specs.Addresses.{is_address, path_text_of}
use Rattle.relay_text.specs.TextSets.{IsAscendingBy, text_cmp}
use Rattle.relay_ordering.specs.declared.keyed.Keyed.{Keyed}
use Rattle.relay_ordering.specs.contracts.keyed.KeyedEq.TheImpl.Laws.{laws-law}
use Rattle.relay_ordering.specs.contracts.keyed.KeyedOrd.TheImpl.Laws.{total-law, matches_eq-law}
use Rattle.relay_ordering.specs.Keys.{sender_cmp, IsKeyed}
use Rattle.relay_ordering.proofs.Members.{Contains-map, Contains-from_map}

-- a path is that of one address, as a law of the addresses says
abbrev pub OnePath : Type 0
OnePath = (a b : AddressParts) → IsTrue (is_address a) → IsTrue (is_address b) → path_text_of (Some a) ≡ path_text_of (Some b) → a ≡ b

abbrev keyed_cmp : {V : Type 0} → Keyed V → Keyed V → Ordering
keyed_cmp x y = slice_cmp nat_cmp x.path.items y.path.items

abbrev same_key : {V : Type 0} → Keyed V → Keyed V → Bool
same_key x y = pointwise nat_eq x.path.items y.path.items

abbrev value_of : {V : Type 0} → Keyed V → V
value_of key = key.value

-- ---- senders by their paths
long_path : (a : AddressParts) → 2 < length (path_text_of (Some a))
long_path a = simp length-append (omega arith)

abbrev IsValid : Option AddressParts → Type 0
IsValid sender = IfSome sender (λ a. IsTrue (is_address a))

same_sender : OnePath → (s t : Option AddressParts) → IsValid s → IsValid t → path_text_of s ≡ path_text_of t → s ≡ t
same_sender one None None good_s good_t same = refl
same_sender one None (Some b) good_s good_t same = absurd (omega (arith, long_path b, ap length same))
same_sender one (Some a) None good_s good_t same = absurd (omega (arith, long_path a, ap length same))
same_sender one (Some a) (Some b) good_s good_t same = ap (λ x. Some x) (one a b good_s good_t same)

-- ---- what is distinct and sorted ascends
equal : (o : Ordering) → is_eq o ≡ true → o ≡ Equal
equal Less e = cc
equal Equal e = refl
equal Greater e = cc

all_by_recursion : {X : Type 0} (P : X → Type 0) (xs : List X) → All P xs → AllByRecursion P xs
all_by_recursion P [] h = tt
all_by_recursion P (x ∷ xs) h = (h 0 x (omega arith), all_by_recursion P xs (λ k d inside. h (suc k) d (omega (arith, inside))))

distinct_from : {X : Type 0} (e : X → X → Bool) (xs : List X) → AllPairs (λ x y. e x y ≡ false) xs → IsDistinct e xs
unfolding IsDistinct
distinct_from e [] h = tt
distinct_from e (x ∷ xs) h = (
  all_by_recursion (λ y. e x y ≡ false) xs (λ k d inside. h 0 (suc k) d (omega arith) (omega (arith, inside))),
  distinct_from e xs (λ i j d before inside. h (suc i) (suc j) d (omega (arith, before)) (omega (arith, inside))),
)

-- nothing is dropped where all are distinct
kept_from : {X : Type 0} (e : X → X → Bool) (flips : (x y : X) → e x y ≡ e y x) (x : X) (xs : List X) → IsDistinct e (x ∷ xs) → dedup_from e x xs ≡ x ∷ xs
unfolding IsDistinct
kept_from e flips x [] h = refl
kept_from e flips x (y ∷ ys) h =
    let other : e y x ≡ false = flips y x ∙ h.0.0 in
    ap (λ b. cond b (dedup_from e x ys) (x ∷ dedup_from e y ys)) other ∙ ap (λ l. x ∷ l) (kept_from e flips y ys h.1)

kept : {X : Type 0} (e : X → X → Bool) (flips : (x y : X) → e x y ≡ e y x) (xs : List X) → IsDistinct e xs → dedup e xs ≡ xs
kept e flips [] h = refl
kept e flips (x ∷ xs) h = kept_from e flips x xs h

module _ (T : RattleType) (sender_of : T.Denot → Option AddressParts) (one : OnePath) (values : List T.Denot) (keys sorted : List (Keyed T.Denot)) (are : map value_of keys ≡ values) (keyed : All (IsKeyed sender_of) keys) (apart : AllPairs (λ a b. sender_of a ≢ sender_of b) values) (moved : IsPermutation keys sorted) where
  abbrev V : Type 0
  V = T.Denot

  there : (key : Keyed V) → Contains sorted key → Contains keys key
  there key c = Contains-permutation sorted keys key (IsPermutation-sym keys sorted moved) c

  pub members : (r : V) → Contains (map value_of sorted) r ↔ Contains values r
  members r = (
    λ c.
        let k = Contains-from_map value_of sorted r c in
        subst (λ (rs : List V). Contains rs r) are (subst (Contains (map value_of keys)) k.2 (Contains-map value_of keys k.0 (there k.0 k.1))),
    λ c.
        let k = Contains-from_map value_of keys r (subst (λ (rs : List V). Contains rs r) (sym are) c) in
        subst (Contains (map value_of sorted)) k.2 (Contains-map value_of sorted k.0 (Contains-permutation keys sorted k.0 moved k.1)),
  )

  differ : (i j : ℕ) (d : Keyed V) → i < j → j < length keys → same_key (get_or keys i d) (get_or keys j d) ≡ true → ⊥
  differ i j d before inside same =
      let x : Keyed V = get_or keys i d in
      let y : Keyed V = get_or keys j d in
      let long : length values ≡ length keys = ap length (sym are) ∙ length-map keys value_of in
      let at_x : get_or values i d.value ≡ x.value = ap (λ (rs : List V). get_or rs i d.value) (sym are) ∙ get_or-map value_of keys i d d.value (omega (arith, before, inside)) in
      let at_y : get_or values j d.value ≡ y.value = ap (λ (rs : List V). get_or rs j d.value) (sym are) ∙ get_or-map value_of keys j d d.value inside in
      let is_x : IsKeyed sender_of x = keyed i d (omega (arith, before, inside)) in
      let is_y : IsKeyed sender_of y = keyed j d inside in
      let tied : x.path.items ≡ y.path.items = exact_bytes x.path.items y.path.items (equal (keyed_cmp x y) (sym (matches_eq-law T x y) ∙ same)) in
      let senders : sender_of x.value ≡ sender_of y.value = same_sender one (sender_of x.value) (sender_of y.value) is_x.valid is_y.valid (sym is_x.path ∙ tied ∙ is_y.path) in
      apart i j d.value before (omega (arith, long, inside)) (ap (λ (r : V). sender_of r) at_x ∙ senders ∙ sym (ap (λ (r : V). sender_of r) at_y))

  -- no two keys have one path
  paths_differ : AllPairs (λ x y. same_key x y ≡ false) keys
  paths_differ i j d before inside = elim (cases_Bool (same_key (get_or keys i d) (get_or keys j d))) [ inl same ↦ absurd (differ i j d before inside same) | inr other ↦ other ]

  pub ascending : IsSorted keyed_cmp sorted → IsAscendingBy (sender_cmp sender_of) (map value_of sorted)
  ascending up = λ i j d before inside.
      let long : length (map value_of sorted) ≡ length sorted = length-map sorted value_of in
      let flips : (x y : Keyed V) → same_key x y ≡ same_key y x = (laws-law T).symm in
      let distinct : IsDistinct same_key sorted = IsDistinct-IsPermutation same_key flips keys sorted moved (distinct_from same_key keys paths_differ) in
      let strict : IsStrictlySortedBy keyed_cmp sorted = subst (IsStrictlySortedBy keyed_cmp) (kept same_key flips sorted distinct) (IsStrictlySortedBy-dedup (total-law T) (matches_eq-law T) sorted up) in
      let k0 : Keyed V = (Contains-from_map value_of sorted (get_or (map value_of sorted) j d) (Contains-get_or (map value_of sorted) j d inside)).0 in
      let j_in : j < length sorted = omega (arith, long, inside) in
      let i_in : i < length sorted = omega (arith, before, j_in) in
      let x : Keyed V = get_or sorted i k0 in
      let y : Keyed V = get_or sorted j k0 in
      let path_x : x.path.items ≡ path_text_of (sender_of (get_or (map value_of sorted) i d)) = (All-contains (IsKeyed sender_of) keys x keyed (there x (Contains-get_or sorted i k0 i_in))).path ∙ ap (λ (r : V). path_text_of (sender_of r)) (sym (get_or-map value_of sorted i k0 d i_in)) in
      let path_y : y.path.items ≡ path_text_of (sender_of (get_or (map value_of sorted) j d)) = (All-contains (IsKeyed sender_of) keys y keyed (there y (Contains-get_or sorted j k0 j_in))).path ∙ ap (λ (r : V). path_text_of (sender_of r)) (sym (get_or-map value_of sorted j k0 d j_in)) in
      ap (λ p. text_cmp p (path_text_of (sender_of (get_or (map value_of sorted) j d)))) (sym path_x) ∙ ap (λ p. text_cmp x.path.items p) (sym path_y) ∙ Less-from_sorted keyed_cmp sorted i j k0 strict before j_in
