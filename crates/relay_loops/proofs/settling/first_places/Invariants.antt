use Rattle.std.proofs.Common.{◌≡◌, [], take, length}
use Rattle.relay_loops.specs.declared.place.Place.TheVariants.{Left}
use Rattle.relay_loops.specs.Places.{IsChangedAt}
use Rattle.relay_loops.proofs.settling.first_places.Given as goal

abbrev pub invariant-loop-node : goal.invariant-loop-node
invariant-loop-node l = record {
  sized : length l.places.items ≡ l.count;
  left : IsChangedAt (λ _. Left) (take l.node-index l.reached) [] l.places.items;
}
