use Rattle.std.proofs.Common.{length}
use Rattle.aliasplan_lint.proofs.lists.item_front.Given as goal

abbrev pub decreases-loop-rest : goal.decreases-loop-rest
decreases-loop-rest l = length l.rest
