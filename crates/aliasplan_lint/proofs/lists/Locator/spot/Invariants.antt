use Rattle.std.proofs.Common.{length}
use Rattle.aliasplan_lint.proofs.lists.Locator.spot.Given as goal

abbrev pub decreases-loop-self : goal.decreases-loop-self
decreases-loop-self l = length l.self.lines.now
