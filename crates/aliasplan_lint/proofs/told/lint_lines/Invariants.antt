use Rattle.std.proofs.Common.{◌≡◌, map, take}
use Rattle.std.specs.Prelude.{option_map}
use Rattle.aliasplan_lint.specs.declared.told.LintLine.{LintLine}
use Rattle.aliasplan_lint.specs.Texts.{lint_line}
use Rattle.aliasplan_lint.proofs.told.lint_lines.Given as goal

abbrev pub invariant-loop-lint : goal.invariant-loop-lint
invariant-loop-lint l = map (λ (line : LintLine). line.text.items) l.lines.items ≡ map (lint_line (option_map (λ o. o.now) l.origins)) (take l.lint-index l.lints)
