use Rattle.std.proofs.Common.{[], Some, ap, ◌∙◌, subst}
use Rattle.std.proofs.lemmas.List.{take_all}
use Rattle.relay_routes.specs.TableSteps.{AreNew}
use Rattle.relay_routes.proofs.PatternRepeats.{new_next}
use Rattle.relay_routes.proofs.transport_table.has_repeat.Goals as goal

pub loop-number-preserved : goal.loop-number-preserved
loop-number-preserved c =
    new_next c.args.entries.now c.loop-number.number c.loop-number-test.true c.loop-number.invariant (c.is_repeat.ensures ∙ ap (λ b. Some b) c.if-is_repeat.false)

pub returns : goal.returns
returns c = λ none. subst (AreNew []) (take_all c.loop-number.number c.args.entries.now c.loop-number-test.false) c.loop-number.invariant
