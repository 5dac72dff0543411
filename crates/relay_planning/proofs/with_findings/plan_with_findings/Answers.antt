use Rattle.relay_planning.proofs.with_findings.plan_with_findings.Goals as goal

pub read_by-requires-clause-job : goal.read_by-requires-clause-job
read_by-requires-clause-job g c = λ l m. c.parsed_is_readable.ensures.jobs c.args.crew.now.limits.bytes c.args.job.now c.args.crew.now.limited.bytes c.requires

pub of-requires : goal.of-requires
of-requires g c = c.parsed_is_readable.ensures.job_batches c.args.crew.now.limits.bytes c.args.job.now c.requires

pub plan_by_lookup_with_findings-requires-clause-lines : goal.plan_by_lookup_with_findings-requires-clause-lines
plan_by_lookup_with_findings-requires-clause-lines g c = λ l m q. rw c.of.ensures (rw c.with_findings-lines.ensures at c.in-Ok.ensures.lines q)

pub returns-in-Ok-clause-sound : goal.returns-in-Ok-clause-sound
returns-in-Ok-clause-sound g c = rw c.of.ensures at c.plan_by_lookup_with_findings.ensures.sound

pub returns-in-Ok-clause-fewest : goal.returns-in-Ok-clause-fewest
returns-in-Ok-clause-fewest g c = rw c.of.ensures at c.plan_by_lookup_with_findings.ensures.fewest

pub returns-in-Ok-clause-refused : goal.returns-in-Ok-clause-refused
returns-in-Ok-clause-refused g c = rw c.of.ensures at c.plan_by_lookup_with_findings.ensures.refused
