use Rattle.std.proofs.Common.{subst}
use Rattle.relay_job.specs.declared.job.Job.{Job}
use Rattle.aliasplan.specs.Checks.{AreLines}
use Rattle.relay_planning.specs.Limits.{IsRefused}
use Rattle.relay_planning.specs.Report.{IsFindingLine}
use Rattle.aliasplan.proofs.CheckFacts.{findings_are}
use Rattle.aliasplan.proofs.checking.findings_of.Goals as goal

pub plan_by_lookup-requires-clause-lines : goal.plan_by_lookup-requires-clause-lines
plan_by_lookup-requires-clause-lines g c = λ l m q. rw c.of.ensures (c.requires.lines q)

pub returns-in-Ok-clause-lines : goal.returns-in-Ok-clause-lines
returns-in-Ok-clause-lines g c = subst (λ (job : Job). AreLines (IsFindingLine job) c.in-Ok.plan.findings) c.of.ensures (findings_are c.of.result c.in-Ok.plan c.in-Ok.ensures.plan)

pub returns-in-Err-clause-refused : goal.returns-in-Err-clause-refused
returns-in-Err-clause-refused g c = subst (λ (job : Job). IsRefused c.args.crew.now.limits job c.in-Err.fault) c.of.ensures c.in-Err.ensures.refused
