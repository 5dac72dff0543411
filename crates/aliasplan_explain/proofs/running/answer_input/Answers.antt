use Rattle.std.proofs.lemmas.Result.{err_from_is_err_and}
use Rattle.aliasplan.proofs.Faults.{refuses_text}
use Rattle.aliasplan_explain.proofs.running.answer_input.Goals as goal

pub returns-in_err-job-clause-refused : goal.returns-in_err-job-clause-refused
returns-in_err-job-clause-refused g c =
    let p = err_from_is_err_and c.from_residual.result c.from_residual.ensures.1 in
    rw (p.1, p.2) (refuses_text c.args.crew.now.limits c.args.input.now c.requires c.in_err-job.field-0.0 c.in_err-job.ensures)
