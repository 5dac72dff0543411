-- The nodes on the way of a trail, read from the steps of a search.
use Rattle.std.proofs.Common.{◌≡◌, ℕ, ◌<◌, List, slice_get, Option, Some, None, sym, ap, ◌∙◌, subst, length, arith}
use Rattle.std.specs.Option.{option_map}
use Rattle.std.proofs.lemmas.Option.{none-some, same_Some}
use Rattle.relay_tables.specs.GraphParts.{GraphParts}
use Rattle.relay_tables.specs.Graphs.{child_numbers, sender_number_after}
use Rattle.relay_pairs.specs.declared.reached.Reached.{Reached}
use Rattle.relay_trails.specs.declared.step.Link.{Link}
use Rattle.relay_trails.specs.declared.step.Link.TheVariants.{Recipient, Item}
use Rattle.relay_trails.specs.declared.step.Step.{Step}
use Rattle.relay_trails.specs.Trails.{ends_in}
use Rattle.relay_trails.specs.Steps.{AreLinked, IsBackward, link_at, next_trail, place_at, trail_at}
use Rattle.relay_trails.specs.Searches.{AreEnds, pair_in}
use Rattle.relay_trails.proofs.Ends.{ends_item}

number_of : (s : ℕ) (o : Option ℕ) (pair : Reached) → option_map (λ (n : ℕ). record { sender = s; node = n }) o ≡ Some pair → o ≡ Some pair.node
number_of s None pair e = absurd (none-some pair e)
number_of s (Some n) pair e = ap (λ (p : Reached). Some p.node) (same_Some (record { sender = s; node = n }) pair e)

-- the node that the trail of a step ends in
abbrev pub node_on : List Reached → List Step → ℕ → ℕ
node_on pairs steps k = (pair_in pairs (place_at steps k)).node

module _ (g : GraphParts) (pairs : List Reached) (steps : List Step) (linked : AreLinked steps) (ended : AreEnds g pairs steps) (at : ℕ) (below : at < length steps) where
  trail_is : (link : Link) → link_at steps at ≡ link → trail_at steps at ≡ next_trail steps link
  trail_is link e = linked.trails at below ∙ ap (next_trail steps) e

  pub root_on : (recipient : ℕ) → link_at steps at ≡ Recipient recipient → slice_get g.roots recipient ≡ Some (node_on pairs steps at)
  root_on recipient e =
      number_of 0 (slice_get g.roots recipient) (pair_in pairs (place_at steps at))
      (ap (ends_in g) (sym (trail_is (Recipient recipient) e)) ∙ ended.ends at below)

  pub child_on : (from item : ℕ) → link_at steps at ≡ Item from item → slice_get (child_numbers g (node_on pairs steps from)) item ≡ Some (node_on pairs steps at)
  child_on from item e =
      let before : from < at = subst (λ (l : Link). IsBackward l at) e (linked.backward at below) in
      let there : from < length steps = omega (arith, before, below) in
      let pair = pair_in pairs (place_at steps from) in
      number_of (sender_number_after g pair.sender pair.node) (slice_get (child_numbers g (node_on pairs steps from)) item) (pair_in pairs (place_at steps at))
      (sym (ends_item g (trail_at steps from) item pair (ended.ends from there)) ∙ ap (ends_in g) (sym (trail_is (Item from item) e)) ∙ ended.ends at below)
