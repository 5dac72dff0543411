use Rattle.relay_planning.proofs.planning.plan_job.Goals as goal

pub read_by-requires-clause-job : goal.read_by-requires-clause-job
read_by-requires-clause-job g c = λ l m. c.parsed_is_readable.ensures.jobs c.args.limits.bytes c.args.job.now c.requires.limits.bytes c.requires.job

pub of-requires : goal.of-requires
of-requires g c = c.parsed_is_readable.ensures.job_batches c.args.limits.bytes c.args.job.now c.requires.job

pub plan_by_lookup-requires-clause-lines : goal.plan_by_lookup-requires-clause-lines
plan_by_lookup-requires-clause-lines g c = λ l m q. rw c.of.ensures (rw c.new-lines.ensures at c.in-Ok.ensures.lines q)

pub returns-clause-sound : goal.returns-clause-sound
returns-clause-sound g c = rw c.of.ensures at c.plan_by_lookup.ensures.sound

pub returns-clause-fewest : goal.returns-clause-fewest
returns-clause-fewest g c = rw c.of.ensures at c.plan_by_lookup.ensures.fewest

pub returns-clause-refused : goal.returns-clause-refused
returns-clause-refused g c = rw c.of.ensures at c.plan_by_lookup.ensures.refused
