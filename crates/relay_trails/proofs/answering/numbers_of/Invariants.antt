use Rattle.std.proofs.Common.{◌≡◌, ◌<◌, ℕ, get_or, length}
use Rattle.relay_trails.specs.Steps.{place_at}
use Rattle.relay_trails.proofs.answering.numbers_of.Given as goal

abbrev pub invariant-loop-number : goal.invariant-loop-number
invariant-loop-number l = record {
  long : length l.numbers.items ≡ l.places;
  each : (k : ℕ) → k < l.number → get_or l.numbers.items (place_at l.steps k) 0 ≡ k;
}
