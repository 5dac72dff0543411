use Rattle.std.proofs.Common.{◌⊎◌}
use Rattle.std.specs.Prelude.{IsTrue}
use Rattle.std.proofs.lemmas.Result.{IfOk-weaker}
use Rattle.relay_text.specs.Bytes.{has_text}
use Rattle.relay_planning.specs.Report.{routes, IsLineOf, IsOwnFindingLine}
use Rattle.relay_planning.proofs.PlanFacts.{own_lines, plan_over}
use Rattle.relay_planning.proofs.planning.plan_reached.Goals as goal

pub returns-clause-plan : goal.returns-clause-plan
returns-clause-plan g c =
    let job = c.args.job.now in
    let reported = c.report_reached.new.lines in
    IfOk-weaker c.plan_pairs.result _ _
    (λ plan is. plan_over job plan (λ q. IsTrue (has_text reported q) ⊎ IsLineOf job routes q) (λ q. IsTrue (has_text c.args.lines q) ⊎ IsOwnFindingLine job q)
    (λ q. own_lines job q c.args.lines reported (c.in_ok-report_reached.ensures q)) is)
    c.plan_pairs.ensures.plan
