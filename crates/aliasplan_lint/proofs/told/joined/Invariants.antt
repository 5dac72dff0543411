use Rattle.std.proofs.Common.{◌≡◌, map, take}
use Rattle.std.specs.List.{concat}
use Rattle.aliasplan_lint.specs.declared.told.LintLine.{LintLine}
use Rattle.aliasplan_lint.proofs.told.joined.Given as goal

abbrev pub invariant-loop-line : goal.invariant-loop-line
invariant-loop-line l = l.out.items ≡ concat (map (λ (line : LintLine). line.text.items) (take l.line-index l.lines))
