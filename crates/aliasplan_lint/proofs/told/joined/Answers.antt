use Rattle.std.proofs.Common.{◌≡◌, ap, ◌∙◌, ◌++◌, arith}
use Rattle.aliasplan_lint.specs.declared.told.LintLine.{LintLine}
use Rattle.aliasplan_lint.proofs.ListFacts.{joined_more}
use Rattle.aliasplan_lint.proofs.told.joined.Goals as goal

pub loop-line-preserved : goal.loop-line-preserved
loop-line-preserved c =
    c.in_ok-extend_from_slice.ensures.items ∙ ap (λ t. c.loop-line.out.items ++ t) c.as_slice.ensures.value
    ∙ joined_more (λ (line : LintLine). line.text.items) c.args.lines.now c.loop-line.line-index c.line-item.result c.loop-line.out.items (omega arith) c.line-item.is c.loop-line.invariant
