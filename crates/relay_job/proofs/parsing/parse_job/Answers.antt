use Rattle.std.proofs.lemmas.Result.{err_from_is_err_and}
use Rattle.relay_job.specs.JobText.{job_of}
use Rattle.relay_job.proofs.ParseFacts.{Fails-from_stop, job-broken}
use Rattle.relay_job.proofs.parsing.parse_job.Goals as goal

pub returns-in_err-parts : goal.returns-in_err-parts
returns-in_err-parts c =
    let p = err_from_is_err_and c.from_residual.result c.from_residual.ensures.1 in
    rw (p.1, p.2) (Fails-from_stop _ c.in_err-parts.field-0.0 (job_of c.args.bytes.now) (λ f g. job-broken c.args.bytes.now f g) c.in_err-parts.ensures.err)

pub returns : goal.returns
returns c = c.job_of_parts.ensures c.args.bytes.now c.in_ok-parts.ensures.ok
