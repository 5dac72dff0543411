use Rattle.std.proofs.Common.{◌∙◌, refl, sym}
use Rattle.relay_text.proofs.Spellings.{is_empty_is}
use Rattle.relay_routes.proofs.PatternFacts.{not_refused, choice_unknown}
use Rattle.relay_routes.proofs.choice.Choice.of.Goals as goal

pub returns-in-None : goal.returns-in-None
returns-in-None c =
    choice_unknown c.args.text.now c.split_at.result.0.now c.split_at.result.1.now c.place_of.result
    (not_refused c.args.text.now _ c.refusal.ensures (rw c.in_default.is refl))
    c.place_of.ensures.place c.split_at.ensures.front c.split_at.ensures.back
    (is_empty_is c.split_at.result.0.now ∙ sym c.if-is_empty.ensures) c.in-None.ensures
