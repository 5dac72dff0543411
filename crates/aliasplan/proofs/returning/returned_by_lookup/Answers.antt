use Rattle.std.proofs.lemmas.Result.{IfOk-weaker}
use Rattle.relay_planning.proofs.PlanFacts.{whole_plan}
use Rattle.aliasplan.proofs.ReturnFaults.{unreturned}
use Rattle.aliasplan.proofs.returning.returned_by_lookup.Goals as goal

pub returns-in-Ok-clause-plan : goal.returns-in-Ok-clause-plan
returns-in-Ok-clause-plan g c = IfOk-weaker c.returned_graph.result _ _ (λ returned is. whole_plan c.args.job.now returned.plan c.args.lines is c.requires.lines) c.returned_graph.ensures.plan

pub returns-in-Err-clause-refused : goal.returns-in-Err-clause-refused
returns-in-Err-clause-refused g c = unreturned c.args.crew.now.limits c.args.job.now c.in-Err.fault c.in-Err.ensures.refused
