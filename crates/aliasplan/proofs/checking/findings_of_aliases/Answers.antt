use Rattle.std.specs.Prelude.{IfErr}
use Rattle.std.proofs.Common.{subst}
use Rattle.relay_job.specs.declared.job.Job.{Job}
use Rattle.relay_planning.specs.Limits.{IsRefused}
use Rattle.aliasplan.proofs.checking.findings_of_aliases.Goals as goal

pub returns-in-Ok-clause-refused : goal.returns-in-Ok-clause-refused
returns-in-Ok-clause-refused g c = subst (λ (job : Job). IfErr c.findings_of.result (IsRefused c.args.crew.now.limits job)) c.in-Ok.ensures c.findings_of.ensures.refused

pub findings_of-requires-clause-batches : goal.findings_of-requires-clause-batches
findings_of-requires-clause-batches g c = λ l m t. rw c.in-Ok.ensures (c.requires.batches t)

pub findings_of-requires-clause-lines : goal.findings_of-requires-clause-lines
findings_of-requires-clause-lines g c = λ l m q. rw c.in-Ok.ensures (c.requires.lines q)
