use Rattle.std.proofs.KnownBytes.{Appends-nil}
use Rattle.aliasplan_each.specs.BesideSteps.FrontsBlock.{nothing}
use Rattle.aliasplan_each.proofs.BesideFacts.{on_err, on_err_both, FrontsBlock-one}
use Rattle.aliasplan_each.proofs.beside.answer_section.Goals as goal

pub returns-in_err-add-clause-front : goal.returns-in_err-add-clause-front
returns-in_err-add-clause-front g c = on_err _ (nothing (Appends-nil _))

pub returns-clause-front : goal.returns-clause-front
returns-clause-front g c = on_err_both _ c.write_whole.ensures.front (λ w. FrontsBlock-one _ _ _ _ _ _ _ _ _ _ _ c.in_ok-add.ensures c.as_section.ensures c.clear.ensures.items (rw c.deref.ensures.value at w))
