use Rattle.std.proofs.Common.{◌≡◌, length}
use Rattle.round_tests.proofs.rings.append_in_turn.Given as goal

abbrev pub invariant-loop-i : goal.invariant-loop-i
invariant-loop-i g l = length l.rings.lists ≡ 5
