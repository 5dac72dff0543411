use Rattle.std.proofs.Common.{◌≡◌, sym, ◌∙◌}
use Rattle.aliasplan_lint.proofs.KindFacts.{of_last}
use Rattle.aliasplan_lint.proofs.kind.Kind.of_last.Goals as goal

pub returns-else-begins-2 : goal.returns-else-begins-2
returns-else-begins-2 c =
    c.of_fault.ensures
    ∙ of_last c.args.words.now (sym c.begins.ensures ∙ c.if-begins.false) (sym c.begins-else-begins.ensures ∙ c.if-begins-2.false)
