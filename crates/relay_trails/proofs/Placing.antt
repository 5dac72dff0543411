-- What a binary search finds among pairs.
use Rattle.std.proofs.Common.{◌≡◌, ℕ, zero, suc, ◌+◌, ◌-◌, ◌*◌, ◌^◌, ◌<◌, ◌≤◌, List, length, get_or, slice_get, map, All, Contains, Some, Ok, Err, sym, ap, ◌∙◌, subst, inl, inr, arith}
use Rattle.std.specs.List.Sorted.{IsStrictlyIncreasing, IsSearchInRange, IsBinarySearchResult, IsNonDecreasingBy}
use Rattle.std.specs.Ordering.{nat_cmp, ordering_index}
use Rattle.std.proofs.lemmas.Bool.{cases_lt}
use Rattle.std.proofs.lemmas.Bool.Decides.{nat_tests}
use Rattle.std.proofs.lemmas.Cmp.{ranked}
use Rattle.std.proofs.lemmas.List.{length-map, get_or-map, get_or_default}
use Rattle.std.proofs.lemmas.List.Elements.{All-contains}
use Rattle.std.proofs.lemmas.List.Kept.{AllPairs-from_increasing}
use Rattle.std.proofs.lemmas.List.Sorted.{IsNonDecreasingBy-from_default}
use Rattle.std.proofs.lemmas.Option.{slice_get-get_or}
use Rattle.relay_pairs.specs.declared.reached.Reached.{Reached}
use Rattle.relay_pairs.specs.Pairs.{key_of}
use Rattle.relay_trails.specs.Searches.{no_pair}
use Rattle.relay_trails.proofs.Ends.{pair_is}

same_high : (s t n m : ℕ) → n < 2 ^ 24 → m < 2 ^ 24 → s * 2 ^ 24 + n ≡ t * 2 ^ 24 + m → s ≡ t
same_high s t n m h k e = omega arith

same_low : (s t n m : ℕ) → n < 2 ^ 24 → m < 2 ^ 24 → s * 2 ^ 24 + n ≡ t * 2 ^ 24 + m → n ≡ m
same_low s t n m h k e = omega arith

same_pair : (p q : Reached) → p.node < 2 ^ 24 → q.node < 2 ^ 24 → key_of p ≡ key_of q → p ≡ q
same_pair p q h k e = pair_is p q (same_high p.sender q.sender p.node q.node h k e) (same_low p.sender q.sender p.node q.node h k e)

index_rises : (x y z : ℕ) → x ≤ y → ordering_index (nat_cmp x z) ≤ ordering_index (nat_cmp y z)
index_rises x y z h = grind (arith, nat_tests)

module _ (pairs : List Reached) (ascending : IsStrictlyIncreasing (map key_of pairs)) (nodes : All (λ p. p.node < 2 ^ 24) pairs) (pair : Reached) (listed : Contains pairs pair) where
  key_rises : (i j : ℕ) → i < j → j < length pairs → key_of (get_or pairs i no_pair) < key_of (get_or pairs j no_pair)
  key_rises i j before short =
      let long : length (map key_of pairs) ≡ length pairs = length-map pairs key_of in
      let j_short : j < length (map key_of pairs) = omega (arith, long) in
      let i_short : i < length pairs = omega (arith, before, short) in
      let less : get_or (map key_of pairs) i 0 < get_or (map key_of pairs) j 0 = AllPairs-from_increasing (map key_of pairs) ascending i j 0 before j_short in
      let a : get_or (map key_of pairs) i 0 ≡ key_of (get_or pairs i no_pair) = get_or-map key_of pairs i no_pair 0 i_short in
      let b : get_or (map key_of pairs) j 0 ≡ key_of (get_or pairs j no_pair) = get_or-map key_of pairs j no_pair 0 short in
      omega (arith, less, a, b)

  key_not_falls : (i j : ℕ) → i ≤ j → j < length pairs → key_of (get_or pairs i no_pair) ≤ key_of (get_or pairs j no_pair)
  key_not_falls i j le short =
      elim (cases_lt i j) [
        | inl less ↦ let h = key_rises i j less short in omega (arith, h)
        | inr no_less ↦ let same : i ≡ j = omega arith in subst (λ (k : ℕ). key_of (get_or pairs i no_pair) ≤ key_of (get_or pairs k no_pair)) same (omega arith)
      ]

  comparisons_rise : IsNonDecreasingBy (λ p. ordering_index (nat_cmp (key_of p) (key_of pair))) pairs
  comparisons_rise = IsNonDecreasingBy-from_default (λ p. ordering_index (nat_cmp (key_of p) (key_of pair))) pairs no_pair (λ i j le short.
      let x : ℕ = key_of (get_or pairs i no_pair) in
      let y : ℕ = key_of (get_or pairs j no_pair) in
      let z : ℕ = key_of pair in
      let h : x ≤ y = key_not_falls i j le short in
      index_rises x y z h)

  pub found_at : (place : ℕ) → IsSearchInRange (Ok place) (length pairs) → IsBinarySearchResult (λ p. nat_cmp (key_of p) (key_of pair)) pairs (Ok place) → slice_get pairs place ≡ Some pair
  found_at place inside equal =
      let p : Reached = get_or pairs place no_pair in
      let key : key_of p ≡ key_of pair = ranked (key_of p) (key_of pair) _ (sym (equal no_pair)) in
      slice_get-get_or pairs place no_pair inside ∙ ap Some (same_pair p pair (nodes place no_pair inside) (All-contains (λ (q : Reached). q.node < 2 ^ 24) pairs pair nodes listed) key)

  pub not_missing : (gap : ℕ) → IsBinarySearchResult (λ p. nat_cmp (key_of p) (key_of pair)) pairs (Err gap) → ⊥
  not_missing gap parted =
      let k : ℕ = listed.0 in
      let e : key_of (get_or pairs k pair) ≡ key_of pair = ap key_of listed.2 in
      let short : k < length pairs = listed.1 in
      let parts = parted comparisons_rise in
      elim (cases_lt k gap) [
        | inl less ↦ let h : key_of (get_or pairs k pair) < key_of pair = ranked (key_of (get_or pairs k pair)) (key_of pair) _ (sym (parts.0 k pair (omega arith) less)) in omega (arith, h, e)
        | inr no_less ↦ let h : key_of pair < key_of (get_or pairs k pair) = ranked (key_of (get_or pairs k pair)) (key_of pair) _ (sym (parts.1 k pair no_less short)) in omega (arith, h, e)
      ]

  -- Where all pairs are of one sender, and as many as the nodes, each stands in the place of its node's number: keys rise, and none is left out.
  key_high_enough : (k : ℕ) → k < length pairs → k ≤ key_of (get_or pairs k no_pair)
  key_high_enough zero short = omega arith
  key_high_enough (suc k) short =
      let before = key_high_enough k (omega (arith, short)) in
      let more = key_rises k (suc k) (omega arith) short in
      omega (arith, before, more)

  key_low_enough : (below : (k : ℕ) → k < length pairs → key_of (get_or pairs k no_pair) < length pairs) (more k : ℕ) → k + more + 1 ≡ length pairs → key_of (get_or pairs k no_pair) + more < length pairs
  key_low_enough below zero k e = let last = below k (omega (arith, e)) in omega (arith, last)
  key_low_enough below (suc more) k e =
      let next = key_low_enough below more (k + 1) (omega (arith, e)) in
      let rises = key_rises k (k + 1) (omega arith) (omega (arith, e)) in
      omega (arith, next, rises)

  pub at_its_node : (count : ℕ) → All (λ p. (p.sender < 1) × (p.node < count)) pairs → length pairs ≡ count → slice_get pairs pair.node ≡ Some pair
  at_its_node count inside long =
      let k : ℕ = listed.0 in
      let short : k < length pairs = listed.1 in
      let here : get_or pairs k no_pair ≡ pair = get_or_default pairs k no_pair pair short ∙ listed.2 in
      let below : (j : ℕ) → j < length pairs → key_of (get_or pairs j no_pair) < length pairs =
      λ j within. let one = inside j no_pair within in omega (arith, one.0, one.1, long) in
      let high = key_high_enough k short in
      let low = key_low_enough below (length pairs - (k + 1)) k (omega (arith, short)) in
      let key : key_of pair ≡ k = ap key_of (sym here) ∙ omega (arith, high, low, short) in
      let one = subst (λ (p : Reached). (p.sender < 1) × (p.node < count)) here (inside k no_pair short) in
      let node : pair.node ≡ k = omega (arith, key, one.0) in
      ap (slice_get pairs) node ∙ slice_get-get_or pairs k no_pair short ∙ ap Some here
