use Rattle.std.proofs.Common.{refl}
use Rattle.std.proofs.lemmas.Result.{err_from_is_err_and}
use Rattle.aliasplan_each.proofs.BesideFacts.{on_err, if_some}
use Rattle.aliasplan_each.proofs.BesideRuns.{if_some_more, front-findings, front-replies, front-done, plans, refused-write}
use Rattle.aliasplan_each.proofs.FaultFacts.{told}
use Rattle.aliasplan_each.proofs.beside.answer_stream.Goals as goal

pub returns-in_err-findings-clause-refuses : goal.returns-in_err-findings-clause-refuses
returns-in_err-findings-clause-refuses g c =
    let p = err_from_is_err_and c.from_residual.result c.from_residual.ensures.1 in
    rw (p.1, p.2) (if_some _ (λ input. refused-write c.args.crew.now.limits c.args.planner.now input _ c.in_err-findings.ensures.only))

pub returns-in_err-findings-clause-write : goal.returns-in_err-findings-clause-write
returns-in_err-findings-clause-write g c =
    let p = err_from_is_err_and c.from_residual.result c.from_residual.ensures.1 in
    rw (p.1, p.2) (told _ _ _ _ refl refl c.in_err-findings.ensures.write)

pub returns-in_err-findings-clause-front : goal.returns-in_err-findings-clause-front
returns-in_err-findings-clause-front g c =
    on_err _ (if_some _ (λ input. front-findings _ _ _ _ input _ _ c.in_err-findings.ensures.front))

pub returns-in_err-counts-clause-refuses : goal.returns-in_err-counts-clause-refuses
returns-in_err-counts-clause-refuses g c =
    let p = err_from_is_err_and c.from_residual-in_err-counts.result c.from_residual-in_err-counts.ensures.1 in
    rw (p.1, p.2) c.in_err-counts.ensures.refused

pub returns-in_err-counts-clause-read : goal.returns-in_err-counts-clause-read
returns-in_err-counts-clause-read g c =
    let p = err_from_is_err_and c.from_residual-in_err-counts.result c.from_residual-in_err-counts.ensures.1 in
    rw (p.1, p.2) (told _ _ _ _ refl refl c.in_err-counts.ensures.read)

pub returns-in_err-counts-clause-write : goal.returns-in_err-counts-clause-write
returns-in_err-counts-clause-write g c =
    let p = err_from_is_err_and c.from_residual-in_err-counts.result c.from_residual-in_err-counts.ensures.1 in
    rw (p.1, p.2) (told _ _ _ _ refl refl c.in_err-counts.ensures.write)

pub returns-in_err-counts-clause-front : goal.returns-in_err-counts-clause-front
returns-in_err-counts-clause-front g c =
    on_err _ (if_some_more _ c.in_err-counts.ensures.front (λ input k. front-replies _ _ _ _ input _ _ _ _ c.in_ok-findings.ensures.written k))

pub returns-in_err-write_done-clause-refuses : goal.returns-in_err-write_done-clause-refuses
returns-in_err-write_done-clause-refuses g c =
    let p = err_from_is_err_and c.from_residual-in_err-write_done.result c.from_residual-in_err-write_done.ensures.1 in
    rw (p.1, p.2) (if_some _ (λ input. refused-write c.args.crew.now.limits c.args.planner.now input _ c.in_err-write_done.ensures.only))

pub returns-in_err-write_done-clause-write : goal.returns-in_err-write_done-clause-write
returns-in_err-write_done-clause-write g c =
    let p = err_from_is_err_and c.from_residual-in_err-write_done.result c.from_residual-in_err-write_done.ensures.1 in
    rw (p.1, p.2) (told _ _ _ _ refl refl c.in_err-write_done.ensures.write)

pub returns-in_err-write_done-clause-front : goal.returns-in_err-write_done-clause-front
returns-in_err-write_done-clause-front g c =
    on_err _ (if_some_more _ c.in_ok-counts.ensures.written (λ input k. front-done _ _ _ _ input _ _ _ _ _ _ c.in_ok-findings.ensures.written k c.in_err-write_done.ensures.front))

pub returns-clause-plans : goal.returns-clause-plans
returns-clause-plans g c =
    if_some_more _ c.in_ok-counts.ensures.written (λ input k. plans _ _ _ _ input _ _ _ _ _ _ c.in_ok-findings.ensures.written k c.requires.few c.in_ok-write_done.ensures.written)
