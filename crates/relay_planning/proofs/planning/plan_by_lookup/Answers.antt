use Rattle.std.proofs.Common.{◌⊎◌}
use Rattle.std.specs.Prelude.{IsTrue}
use Rattle.relay_text.specs.Bytes.{has_text}
use Rattle.relay_planning.specs.Report.{IsOwnFindingLine}
use Rattle.relay_planning.proofs.PlanFacts.{plan_over, whole_plan}
use Rattle.relay_planning.proofs.planning.plan_by_lookup.Goals as goal

pub returns-in-Ok-clause-plan : goal.returns-in-Ok-clause-plan
returns-in-Ok-clause-plan g c =
    let job = c.args.job.now in
    let plan = c.in-Ok.plan in
    whole_plan job plan c.args.lines
    (plan_over job plan (λ q. IsTrue (has_text c.transactions_by_lookup.new.lines q)) (λ q. IsTrue (has_text c.args.lines q) ⊎ IsOwnFindingLine job q) c.in_ok-transactions.ensures.lines c.in-Ok.ensures.plan)
    c.requires.lines
