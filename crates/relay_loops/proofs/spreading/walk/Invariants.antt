use Rattle.std.proofs.Common.{◌-◌}
use Rattle.relay_loops.specs.Places.{HasPlaces}
use Rattle.relay_loops.specs.Searches.{HasWalked}
use Rattle.relay_loops.proofs.spreading.walk.Given as goal

abbrev pub invariant-loop-passed : goal.invariant-loop-passed
invariant-loop-passed l = record {
  places : HasPlaces l.graph l.places;
  walked : HasWalked l.graph l.direction l.passed l.initial.places l.places l.initial.found.items l.found.items;
}

abbrev pub decreases-loop-passed : goal.decreases-loop-passed
decreases-loop-passed l = 4096 - l.passed
