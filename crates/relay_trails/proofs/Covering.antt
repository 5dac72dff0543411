-- A search that has taken all links has the best trail to each pair.
use Rattle.std.proofs.Common.{◌≡◌, ℕ, ◌<◌, List, [], ◌∷◌, ◌++◌, length, get_or, map, Option, Some, sym, ap, ◌∙◌, subst, inl, inr, arith}
use Rattle.std.specs.List.Sorted.{IsStrictlyIncreasing}
use Rattle.std.proofs.lemmas.Bool.{cases_lt}
use Rattle.std.proofs.lemmas.List.{append_assoc, append-nil, get_or-map, length-map}
use Rattle.std.proofs.lemmas.List.Elements.{Contains-get_or}
use Rattle.std.proofs.lemmas.List.Kept.{AllPairs-from_increasing}
use Rattle.std.proofs.lemmas.Option.{same_Some}
use Rattle.relay_tables.specs.GraphParts.{GraphParts}
use Rattle.relay_pairs.specs.declared.reached.Reached.{Reached}
use Rattle.relay_pairs.specs.Pairs.{ArePairs, key_of}
use Rattle.relay_trails.specs.declared.step.Link.{Link}
use Rattle.relay_trails.specs.declared.step.Link.TheVariants.{Recipient, Item}
use Rattle.relay_trails.specs.declared.step.Step.{Step}
use Rattle.relay_trails.specs.Trails.{Trail, IsBest, ends_in, pair_after, pair_along, pair_of_recipient}
use Rattle.relay_trails.specs.Steps.{place_at, trail_at, with_item}
use Rattle.relay_trails.specs.Searches.{IsAt, IsAtMost, IsCovered, IsDone, no_pair, pair_in, step_of}
use Rattle.relay_trails.proofs.Orders.{at_most_trans, at_most_item, at_most_least}
use Rattle.relay_trails.proofs.Ends.{along_some, ends_item, has_trail}

-- pairs that ascend are distinct
places_rise : (pairs : List Reached) → IsStrictlyIncreasing (map key_of pairs) → (p q : ℕ) → p < q → q < length pairs → pair_in pairs p ≡ pair_in pairs q → ⊥
places_rise pairs ascending p q before short same =
    let long : length (map key_of pairs) ≡ length pairs = length-map pairs key_of in
    let q_short : q < length (map key_of pairs) = omega (arith, long) in
    let p_short : p < length pairs = omega (arith, before, short) in
    let less : get_or (map key_of pairs) p 0 < get_or (map key_of pairs) q 0 = AllPairs-from_increasing (map key_of pairs) ascending p q 0 before q_short in
    let a : get_or (map key_of pairs) p 0 ≡ key_of (pair_in pairs p) = get_or-map key_of pairs p no_pair 0 p_short in
    let b : get_or (map key_of pairs) q 0 ≡ key_of (pair_in pairs q) = get_or-map key_of pairs q no_pair 0 short in
    let e : get_or (map key_of pairs) p 0 ≡ get_or (map key_of pairs) q 0 = a ∙ ap key_of same ∙ sym b in
    omega (arith, less, e)

pub one_place : (pairs : List Reached) → IsStrictlyIncreasing (map key_of pairs) → (p q : ℕ) → p < length pairs → q < length pairs → pair_in pairs p ≡ pair_in pairs q → p ≡ q
one_place pairs ascending p q p_short q_short same =
    elim (cases_lt p q) [
      | inl less ↦ absurd (places_rise pairs ascending p q less q_short same)
      | inr no_less ↦
          elim (cases_lt q p) [
            | inl less ↦ absurd (places_rise pairs ascending q p less p_short (sym same))
            | inr no_more ↦ omega arith
          ]
    ]

module _ (g : GraphParts) (pairs : List Reached) (found : List (Option ℕ)) (steps : List Step) (at : IsAt g pairs found steps (Item (length steps) 0)) where
  -- from a trail that some step's is at most, on along some items
  along : (items : List ℕ) (t : Trail) (pair : Reached) (k : ℕ) → k < length steps → IsAtMost (trail_at steps k) t → pair_along g (Some (pair_in pairs (place_at steps k))) items ≡ Some pair → IsCovered pairs steps (record { recipient = t.recipient; items = t.items ++ items }) pair
  along [] t pair k h most e =
      let whole : t ≡ record { recipient = t.recipient; items = t.items ++ [] } = ap (λ (is : List ℕ). record { recipient = t.recipient; items = is }) (sym (append-nil t.items)) in
      record {
        step = k;
        below = h;
        same = same_Some (pair_in pairs (place_at steps k)) pair e;
        at_most = subst (IsAtMost (trail_at steps k)) whole most;
      }
  along (i ∷ items) t pair k h most e =
      let here : Reached = pair_in pairs (place_at steps k) in
      let next = along_some g (pair_after g i here) items pair e in
      let q : Reached = next.0 in
      let link : Link = Item k i in
      let ends : ends_in g (with_item (trail_at steps k) i) ≡ Some q = ends_item g (trail_at steps k) i here (at.search.ends k h) ∙ next.1 in
      let c : IsCovered pairs steps (with_item (trail_at steps k) i) q = at.covered link q (inl h) ends in
      let less = at_most_trans (trail_at steps c.step) (with_item (trail_at steps k) i) (with_item t i) c.at_most (at_most_item (trail_at steps k) t i most) in
      let from : pair_along g (Some (pair_in pairs (place_at steps c.step))) items ≡ Some pair = ap (λ (p : Reached). pair_along g (Some p) items) c.same ∙ sym (ap (λ (o : Option Reached). pair_along g o items) next.1) ∙ e in
      let rest = along items (with_item t i) pair c.step c.below less from in
      subst (λ (is : List ℕ). IsCovered pairs steps (record { recipient = t.recipient; items = is }) pair) (append_assoc t.items (i ∷ []) items) rest

  -- each trail that ends in a pair
  pub all_covered : (u : Trail) (pair : Reached) → ends_in g u ≡ Some pair → IsCovered pairs steps u pair
  all_covered u pair e =
      let first = along_some g (pair_of_recipient g u.recipient) u.items pair e in
      let q : Reached = first.0 in
      let start : Trail = record { recipient = u.recipient; items = [] } in
      let link : Link = Recipient u.recipient in
      let c : IsCovered pairs steps start q = at.covered link q tt first.1 in
      let from : pair_along g (Some (pair_in pairs (place_at steps c.step))) u.items ≡ Some pair = ap (λ (p : Reached). pair_along g (Some p) u.items) c.same ∙ sym (ap (λ (o : Option Reached). pair_along g o u.items) first.1) ∙ e in
      along u.items start pair c.step c.below c.at_most from

  module _ (all : ArePairs g pairs) where
    -- a step for the pair is the step of its place
    at_place : (place : ℕ) → place < length pairs → (t : Trail) → (c : IsCovered pairs steps t (pair_in pairs place)) → step_of found place ≡ Some c.step
    at_place place inside t c =
        let was = at.search.places c.step c.below in
        let same : place_at steps c.step ≡ place = one_place pairs all.ascending (place_at steps c.step) place was.0 inside c.same in
        sym (ap (step_of found) same) ∙ was.1

    pub all_done : IsDone g pairs found steps
    all_done =
        record {
          sized = at.search.sized;
          linked = at.search.linked;
          ended = record { pairs_are = at.search.pairs_are; places = λ k below. (at.search.places k below).0; ends = at.search.ends };
          best = λ place inside.
              let pair : Reached = pair_in pairs place in
              let t = has_trail g pair ((all.members pair).0 (Contains-get_or pairs place no_pair inside)) in
              let c = all_covered t.0 pair t.1 in
              let here = at_place place inside t.0 c in
              let best : IsBest g pair (trail_at steps c.step) = record {
                ends = at.search.ends c.step c.below ∙ ap Some c.same;
                least = λ u e less.
                    let d = all_covered u pair e in
                    let one : c.step ≡ d.step = same_Some c.step d.step (sym here ∙ at_place place inside u d) in
                    at_most_least (trail_at steps c.step) u (subst (λ (n : ℕ). IsAtMost (trail_at steps n) u) (sym one) d.at_most) less;
              } in
              (c.step, c.below, here, best);
        }
