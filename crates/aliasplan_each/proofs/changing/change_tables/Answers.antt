use Rattle.aliasplan_each.proofs.BesideFacts.{on_err, on_ok_both, on_err_both}
use Rattle.aliasplan_each.proofs.ChangeFacts.{FrontsChange-none, WritesChange-of, FrontsChange-of}
use Rattle.aliasplan_each.proofs.changing.change_tables.Goals as goal

pub returns-in_err-answer-clause-front : goal.returns-in_err-answer-clause-front
returns-in_err-answer-clause-front g c = on_err _ (FrontsChange-none _ _ _ _ _)

pub returns-clause-written : goal.returns-clause-written
returns-clause-written g c = on_ok_both _ c.write_whole.ensures.written (λ w. WritesChange-of _ _ _ _ _ _ _ _ c.in_ok-answer.ensures.changed (rw c.deref.ensures.value at w))

pub returns-clause-front : goal.returns-clause-front
returns-clause-front g c = on_err_both _ c.write_whole.ensures.front (λ w. FrontsChange-of _ _ _ _ _ _ _ _ c.in_ok-answer.ensures.changed (rw c.deref.ensures.value at w))
