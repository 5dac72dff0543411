use Rattle.std.proofs.Common.{◌≡◌, map}
use Rattle.relay_ordering.proofs.ordering.values_of.Given as goal

abbrev pub invariant-loop-key : goal.invariant-loop-key
invariant-loop-key g l = l.sorted.items ≡ map (λ k. k.value) l.yielded
