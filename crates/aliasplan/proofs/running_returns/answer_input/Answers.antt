use Rattle.std.proofs.lemmas.Result.{err_from_is_err_and, IfErr-weaker, IfOk-weaker}
use Rattle.aliasplan.proofs.ReturnFaults.{refuses_text, refuses_job}
use Rattle.aliasplan.proofs.running_returns.answer_input.Goals as goal

pub returns-in_err-job-clause-refused : goal.returns-in_err-job-clause-refused
returns-in_err-job-clause-refused g c =
    let p = err_from_is_err_and c.from_residual.result c.from_residual.ensures.1 in
    rw (p.1, p.2) (refuses_text c.args.crew.now.limits c.args.input.now c.requires c.in_err-job.field-0.0 c.in_err-job.ensures)

pub returns-clause-answered : goal.returns-clause-answered
returns-clause-answered g c = IfOk-weaker c.answer_job-answer.result _ _
    (λ answer h. record {
      size = c.requires;
      job = c.in_ok-job.job;
      read = c.in_ok-job.ensures;
      within = h.0;
      plan = h.1.0;
      planned = h.1.1;
      returns = h.1.4.0;
      returned = h.1.4.1;
      written = h.1.4.2;
      summed = h.1.4.3;
      sound = h.1.2;
      fewest = h.1.3;
    })
    c.answer_job-answer.ensures.answered

pub returns-clause-refused : goal.returns-clause-refused
returns-clause-refused g c =
    IfErr-weaker c.answer_job-answer.result _ _ (refuses_job c.args.crew.now.limits c.args.input.now c.requires c.in_ok-job.job c.in_ok-job.ensures) c.answer_job-answer.ensures.refused
