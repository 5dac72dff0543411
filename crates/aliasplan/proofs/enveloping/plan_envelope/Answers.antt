use Rattle.relay_planning.proofs.PlanFacts.{own_plan}
use Rattle.aliasplan.proofs.enveloping.plan_envelope.Goals as goal

pub returns-in-Ok-clause-plan : goal.returns-in-Ok-clause-plan
returns-in-Ok-clause-plan g c = own_plan c.args.job.now c.in-Ok.plan c.new-lines.result c.in-Ok.ensures.plan c.new-lines.ensures
