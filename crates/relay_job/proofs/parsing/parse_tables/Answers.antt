use Rattle.std.proofs.lemmas.Result.{err_from_is_err_and}
use Rattle.relay_job.specs.Tables.{tables_of}
use Rattle.relay_job.proofs.ParseFacts.{Fails-from_stop}
use Rattle.relay_job.proofs.TablesFacts.{tables-broken}
use Rattle.relay_job.proofs.parsing.parse_tables.Goals as goal

pub returns-in_err-parts : goal.returns-in_err-parts
returns-in_err-parts c =
    let p = err_from_is_err_and c.from_residual.result c.from_residual.ensures.1 in
    rw (p.1, p.2) (Fails-from_stop _ c.in_err-parts.field-0.0 (tables_of c.args.bytes.now) (λ f g. tables-broken c.args.bytes.now f g) c.in_err-parts.ensures.err)

pub returns : goal.returns
returns c = c.tables_of_parts.ensures c.args.bytes.now c.in_ok-parts.ensures.ok
