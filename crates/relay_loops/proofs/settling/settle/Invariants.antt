use Rattle.std.proofs.Common.{◌≡◌, ◌<◌, ℕ, false, slice_index}
use Rattle.relay_loops.specs.Judging.{IsResting, KeepsJudged}
use Rattle.relay_loops.specs.Places.{is_left, place_at, HasPlaces}
use Rattle.relay_loops.proofs.settling.settle.Given as goal

abbrev pub invariant-loop-pivot : goal.invariant-loop-pivot
invariant-loop-pivot g l = record {
  places : HasPlaces l.graph l.places;
  resting : IsResting l.places;
  judged : KeepsJudged l.graph l.initial.places l.places;
  answered : (k : ℕ) → k < l.pivot-index → is_left (place_at l.places (slice_index l.order k)) ≡ false;
}
