use Rattle.aliasplan_lint.specs.Marks.{AreMarked}
use Rattle.aliasplan_lint.proofs.whole.Whole.add_all.Given as goal

-- those so far are marked
abbrev pub invariant-loop-lint : goal.invariant-loop-lint
invariant-loop-lint l = AreMarked l.findings l.self
