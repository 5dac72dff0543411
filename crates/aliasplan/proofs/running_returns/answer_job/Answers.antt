use Rattle.std.proofs.lemmas.Result.{err_from_is_err_and}
use Rattle.aliasplan.proofs.running_returns.answer_job.Goals as goal

pub returns-in_err-returned-clause-refused : goal.returns-in_err-returned-clause-refused
returns-in_err-returned-clause-refused g c =
    let p = err_from_is_err_and c.from_residual.result c.from_residual.ensures.1 in
    rw (p.1, p.2) c.in_err-returned.ensures.refused
