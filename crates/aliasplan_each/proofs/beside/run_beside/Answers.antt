use Rattle.std.proofs.Common.{refl, ◌∙◌}
use Rattle.std.proofs.lemmas.Result.{err_from_is_err_and}
use Rattle.relay_job.specs.declared.fault.RunFault.TheVariants.{Read, Write}
use Rattle.aliasplan_each.proofs.BesideFacts.{on_err, if_some}
use Rattle.aliasplan_each.proofs.BesideRuns.{without-is, refused-else, refused-tables, front-none, known-plain, known-plain_front}
use Rattle.aliasplan_each.proofs.FaultFacts.{untold}
use Rattle.aliasplan_each.proofs.beside.run_beside.Goals as goal

pub returns-in_err-planner-clause-changes_front : goal.returns-in_err-planner-clause-changes_front
returns-in_err-planner-clause-changes_front g c = on_err _ (if_some _ (λ input. front-none _ _ _ _ input _))

pub returns-in_err-planner-clause-refuses : goal.returns-in_err-planner-clause-refuses
returns-in_err-planner-clause-refuses g c =
    let p = err_from_is_err_and c.from_residual.result c.from_residual.ensures.1 in
    rw (p.1, p.2) (if_some _ (λ input. refused-tables c.args.crew.now.limits c.args.tables input _ c.in_err-planner.ensures.refused))

pub returns-in_err-planner-clause-read : goal.returns-in_err-planner-clause-read
returns-in_err-planner-clause-read g c =
    let p = err_from_is_err_and c.from_residual.result c.from_residual.ensures.1 in
    rw (p.1, p.2) (untold _ _ _ refl (refused-else c.args.crew.now.limits c.args.tables _ Read c.in_err-planner.ensures.refused (λ h. h)) c.requires.reader.0)

pub returns-in_err-planner-clause-write : goal.returns-in_err-planner-clause-write
returns-in_err-planner-clause-write g c =
    let p = err_from_is_err_and c.from_residual.result c.from_residual.ensures.1 in
    rw (p.1, p.2) (untold _ _ _ refl (refused-else c.args.crew.now.limits c.args.tables _ Write c.in_err-planner.ensures.refused (λ h. h)) c.requires.writer)

pub returns-in_err-planner-clause-front : goal.returns-in_err-planner-clause-front
returns-in_err-planner-clause-front g c = known-plain_front _ _ _ _ (g.T.TablesSource.coming c.args.source.now) _ _ _ (on_err _ (if_some _ (λ input. front-none _ _ _ _ input _)))

pub answer_stream-summary-requires-clause-few : goal.answer_stream-summary-requires-clause-few
answer_stream-summary-requires-clause-few g c = λ l m. rw (c.in_ok-planner.ensures.tables ∙ without-is _ _ c.requires.tables) c.in_ok-planner.ensures.within

pub returns-clause-changes : goal.returns-clause-changes
returns-clause-changes g c = rw (c.in_ok-planner.ensures.tables ∙ without-is _ _ c.requires.tables) at c.answer_stream-summary.ensures.plans

pub returns-clause-changes_front : goal.returns-clause-changes_front
returns-clause-changes_front g c = rw (c.in_ok-planner.ensures.tables ∙ without-is _ _ c.requires.tables) at c.answer_stream-summary.ensures.front

pub returns-clause-plans : goal.returns-clause-plans
returns-clause-plans g c = known-plain _ _ _ _ _ _ _ _ (rw (c.in_ok-planner.ensures.tables ∙ without-is _ _ c.requires.tables) at c.answer_stream-summary.ensures.plans)

pub returns-clause-refuses : goal.returns-clause-refuses
returns-clause-refuses g c = rw (c.in_ok-planner.ensures.tables ∙ without-is _ _ c.requires.tables) at c.answer_stream-summary.ensures.refuses

pub returns-clause-read : goal.returns-clause-read
returns-clause-read g c = c.answer_stream-summary.ensures.read

pub returns-clause-write : goal.returns-clause-write
returns-clause-write g c = c.answer_stream-summary.ensures.write

pub returns-clause-front : goal.returns-clause-front
returns-clause-front g c = known-plain_front _ _ _ _ _ _ _ _ (rw (c.in_ok-planner.ensures.tables ∙ without-is _ _ c.requires.tables) at c.answer_stream-summary.ensures.front)

pub returns-clause-ended : goal.returns-clause-ended
returns-clause-ended g c = c.answer_stream-summary.ensures.ended
