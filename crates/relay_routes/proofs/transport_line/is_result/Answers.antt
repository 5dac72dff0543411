use Rattle.std.proofs.Common.{sym, ◌∙◌}
use Rattle.relay_routes.proofs.ResultFacts.{visible_result, hidden_result, no_word}
use Rattle.relay_routes.proofs.transport_line.is_result.Goals as goal

pub returns-then-all_visible : goal.returns-then-all_visible
returns-then-all_visible c =
    c.if-all_visible.true ∙ sym (visible_result c.args.text.now (sym c.is_empty.ensures ∙ c.if-not-is_empty.true) (sym c.all_visible.ensures ∙ c.if-all_visible.true))

pub returns-else-is_some : goal.returns-else-is_some
returns-else-is_some c =
    c.if-is_some.false ∙ sym (hidden_result c.args.text.now (sym c.all_visible.ensures ∙ c.if-all_visible.false) (no_word _ _ _ _ c.refusal.ensures (sym c.is_some.ensures ∙ c.if-is_some.false)))
