use Rattle.std.proofs.lemmas.Result.{err_from_is_err_and}
use Rattle.aliasplan_each.specs.Changes.IsKept.{refused}
use Rattle.aliasplan_each.proofs.ChangeFacts.{kept-broken, HasRead-of}
use Rattle.aliasplan_each.proofs.changing.read_tables.Goals as goal

pub returns-in_err-tables-clause-refused : goal.returns-in_err-tables-clause-refused
returns-in_err-tables-clause-refused g c =
    let p = err_from_is_err_and c.from_residual-in_err-tables.result c.from_residual-in_err-tables.ensures.1 in
    rw (p.1, p.2) (kept-broken _ _ _ c.in_ok-text.ensures.text c.in_ok-text.ensures.size _ (rw c.as_bytes-2.ensures at c.in_err-tables.ensures))

pub returns-in_err-planner-clause-refused : goal.returns-in_err-planner-clause-refused
returns-in_err-planner-clause-refused g c =
    let p = err_from_is_err_and c.from_residual-in_err-planner.result c.from_residual-in_err-planner.ensures.1 in
    rw (p.1, p.2) (refused _ _ c.in_ok-text.ensures.text c.in_ok-text.ensures.size (rw c.as_bytes-2.ensures at c.in_ok-tables.ensures) c.in_err-planner.ensures.refused)

pub returns-clause-read : goal.returns-clause-read
returns-clause-read g c = HasRead-of _ _ _ _ _ _ _ c.in_ok-text.ensures.text c.in_ok-text.ensures.size (rw c.as_bytes-2.ensures at c.in_ok-tables.ensures) c.in_ok-planner.ensures.within c.in_ok-planner.ensures.tables (rw c.as_bytes.ensures at c.in_ok-answer.ensures)
