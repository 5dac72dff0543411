use Rattle.std.proofs.lemmas.Result.{err_from_is_err_and}
use Rattle.aliasplan.proofs.returning.returns_of.Goals as goal

pub returns-in_err-lists-clause-refused : goal.returns-in_err-lists-clause-refused
returns-in_err-lists-clause-refused g c =
    let p = err_from_is_err_and c.from_residual-in_err-lists.result c.from_residual-in_err-lists.ensures.1 in
    rw (p.1, p.2) c.in_err-lists.ensures.refused

pub return_lines-requires-clause-findings : goal.return_lines-requires-clause-findings
return_lines-requires-clause-findings g c = λ l m. rw c.deref-3.ensures.value c.in_ok-undelivered.ensures.findings
