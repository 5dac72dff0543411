use Rattle.std.proofs.Common.{◌≡◌, sym, ap, ◌∙◌}
use Rattle.aliasplan_lint.specs.Kinds.{words_kind}
use Rattle.aliasplan_lint.proofs.KindFacts.{of_words}
use Rattle.aliasplan_lint.proofs.kind.Kind.of_line.Goals as goal

pub returns-else-begins-3 : goal.returns-else-begins-3
returns-else-begins-3 c =
    c.of_later.ensures
    ∙ of_words c.words_in-words.result.now (sym c.begins.ensures ∙ c.if-begins.false) (sym c.begins-else-begins.ensures ∙ c.if-begins-2.false)
    (sym c.begins-else-begins-2.ensures ∙ c.if-begins-3.false)
    ∙ ap words_kind c.words_in-words.ensures
