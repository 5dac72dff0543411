use Rattle.std.proofs.Common.{◌≡◌, length}
use Rattle.refused_tables.proofs.rings.takes_steps.Given as goal

abbrev pub invariant-loop-next : goal.invariant-loop-next
invariant-loop-next l = length l.rings.lists ≡ 3
