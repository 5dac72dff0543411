use Rattle.std.proofs.Common.{◌≡◌, List, ℕ}
use Rattle.std.proofs.lemmas.Result.{err_from_is_err_and}
use Rattle.aliasplan_lint.proofs.LintFaults.{no_tables, no_findings}
use Rattle.aliasplan_lint.proofs.running.lint_input.Goals as goal

pub returns-in_err-job-clause-refused : goal.returns-in_err-job-clause-refused
returns-in_err-job-clause-refused g c =
    let p = err_from_is_err_and c.from_residual.result c.from_residual.ensures.1 in
    rw (p.1, p.2) (no_tables c.args.crew.now.limits c.args.input.now c.in_err-job.field-0.0 c.in_err-job.ensures)

pub returns-in_err-tables-clause-refused : goal.returns-in_err-tables-clause-refused
returns-in_err-tables-clause-refused g c =
    let p = err_from_is_err_and c.from_residual-in_err-tables.result c.from_residual-in_err-tables.ensures.1 in
    rw (p.1, p.2) (no_tables c.args.crew.now.limits c.args.input.now c.in_err-tables.field-0.0 c.in_err-tables.ensures)

pub returns-in_err-findings-clause-refused : goal.returns-in_err-findings-clause-refused
returns-in_err-findings-clause-refused g c =
    let p = err_from_is_err_and c.from_residual-in_err-findings.result c.from_residual-in_err-findings.ensures.1 in
    rw (p.1, p.2) (no_findings c.args.crew.now.limits c.args.input.now c.in_ok-tables.tables c.in_ok-tables.ensures c.in_err-findings.field-0.0 c.in_err-findings.ensures.refused)
