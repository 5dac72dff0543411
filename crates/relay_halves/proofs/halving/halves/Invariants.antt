use Rattle.std.proofs.Common.{◌≤◌, length}
use Rattle.relay_halves.proofs.halving.halves.Given as goal

abbrev pub invariant-loop : goal.invariant-loop
invariant-loop l = l.place ≤ length l.bytes
