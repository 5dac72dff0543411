use Rattle.std.proofs.Common.{◌-◌}
use Rattle.relay_rings.proofs.Ascending.{Climbs}
use Rattle.round_tests.proofs.rings.are_ascending.Given as goal

abbrev pub invariant-loop-i : goal.invariant-loop-i
invariant-loop-i l = Climbs l.placed (l.i - 1)
