use Rattle.std.proofs.lemmas.Result.{err_from_is_err_and, IfErr-weaker, IfOk-weaker}
use Rattle.aliasplan.proofs.Faults.{refuses_text, refuses_job}
use Rattle.aliasplan.proofs.listing_domains.domain_text.Goals as goal

pub returns-in_err-job-clause-refused : goal.returns-in_err-job-clause-refused
returns-in_err-job-clause-refused g c =
    let p = err_from_is_err_and c.from_residual.result c.from_residual.ensures.1 in
    rw (p.1, p.2) (refuses_text c.args.crew.now.limits c.args.input.now c.requires c.in_err-job.field-0.0 c.in_err-job.ensures)

pub returns-clause-text : goal.returns-clause-text
returns-clause-text g c = IfOk-weaker c.domain_lines-text.result _ _ (λ text h. record {
  size = c.requires;
  job = c.in_ok-job.job;
  read = c.in_ok-job.ensures;
  within = h.0;
  domains = h.1.0;
  asked = h.1.1;
  lines = h.1.2;
}) c.domain_lines-text.ensures.text

pub returns-clause-refused : goal.returns-clause-refused
returns-clause-refused g c =
    IfErr-weaker c.domain_lines-text.result _ _ (refuses_job c.args.crew.now.limits c.args.input.now c.requires c.in_ok-job.job c.in_ok-job.ensures) c.domain_lines-text.ensures.refused
