use Rattle.std.proofs.lemmas.Result.{err_from_is_err_and, IfErr-weaker}
use Rattle.aliasplan.proofs.Faults.{refuses_text, refuses_job}
use Rattle.aliasplan.proofs.RunFacts.{answer_of}
use Rattle.aliasplan.proofs.answering.answer_input.Goals as goal

pub returns-in_err-job-clause-refused : goal.returns-in_err-job-clause-refused
returns-in_err-job-clause-refused g c =
    let p = err_from_is_err_and c.from_residual.result c.from_residual.ensures.1 in
    rw (p.1, p.2) (refuses_text c.args.limits c.args.input c.requires.input c.in_err-job.field-0.0 (rw c.as_bytes.ensures at c.in_err-job.ensures))

pub returns-clause-answered : goal.returns-clause-answered
returns-clause-answered g c = answer_of c.args.limits c.args.options.form c.args.input c.in_ok-job.job c.write_job-written.result c.requires.input (rw c.as_bytes.ensures at c.in_ok-job.ensures) c.write_job-written.ensures.within c.write_job-written.ensures.written

pub returns-clause-refused : goal.returns-clause-refused
returns-clause-refused g c =
    IfErr-weaker c.write_job-written.result _ _ (refuses_job c.args.limits c.args.input c.requires.input c.in_ok-job.job (rw c.as_bytes.ensures at c.in_ok-job.ensures)) c.write_job-written.ensures.refused
