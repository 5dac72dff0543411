use Rattle.std.proofs.lemmas.Result.{err_from_is_err_and, IfOk-weaker}
use Rattle.relay_planning.proofs.written.formed_by_lookup.Goals as goal

pub returns-in_err-plan-clause-refused : goal.returns-in_err-plan-clause-refused
returns-in_err-plan-clause-refused g c =
    let p = err_from_is_err_and c.from_residual.result c.from_residual.ensures.1 in
    rw (p.1, p.2) c.in_err-plan.ensures.refused

pub returns-clause-written : goal.returns-clause-written
returns-clause-written g c = IfOk-weaker c.written_of-written.result _ _ (λ written is. (c.in_ok-plan.plan, c.in_ok-plan.ensures.plan, c.in_ok-plan.ensures.sound, c.in_ok-plan.ensures.fewest, is)) c.written_of-written.ensures.written
