use Rattle.std.proofs.Common.{◌⊎◌}
use Rattle.std.specs.Prelude.{IsTrue}
use Rattle.relay_text.specs.Bytes.{has_text}
use Rattle.relay_planning.specs.Report.{IsOwnFindingLine}
use Rattle.relay_planning.proofs.PlanFacts.{plan_over, whole_plan}
use Rattle.relay_planning.proofs.with_findings.plan_by_lookup_with_findings.Goals as goal

pub returns-in-Ok-plan_with_found-clause-plan : goal.returns-in-Ok-plan_with_found-clause-plan
returns-in-Ok-plan_with_found-clause-plan g c =
    let job = c.args.job.now in
    let plan = c.in-Ok-plan_with_found.reported.plan in
    whole_plan job plan c.args.lines
    (plan_over job plan (λ q. IsTrue (has_text c.transactions_by_lookup.new.lines q)) (λ q. IsTrue (has_text c.args.lines q) ⊎ IsOwnFindingLine job q) c.in-Ok.ensures.lines c.in-Ok-plan_with_found.ensures.plan)
    c.requires.lines
