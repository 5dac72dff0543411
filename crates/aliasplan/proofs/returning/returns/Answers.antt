use Rattle.aliasplan.proofs.returning.returns.Goals as goal

pub read_by-requires-clause-job : goal.read_by-requires-clause-job
read_by-requires-clause-job g c = λ l m. c.parsed_is_readable.ensures.jobs c.args.crew.now.limits.bytes c.args.job.now c.args.crew.now.limited.bytes c.requires.job

pub of-requires : goal.of-requires
of-requires g c = c.parsed_is_readable.ensures.job_batches c.args.crew.now.limits.bytes c.args.job.now c.requires.job

pub returned_by_lookup-returned-requires-clause-lines : goal.returned_by_lookup-returned-requires-clause-lines
returned_by_lookup-returned-requires-clause-lines g c = λ l m q. rw c.of.ensures (rw c.new-lines.ensures at c.in-Ok.ensures.lines q)

pub returns-in-Ok-clause-plan : goal.returns-in-Ok-clause-plan
returns-in-Ok-clause-plan g c = rw c.of.ensures at c.returned_by_lookup-returned.ensures.plan

pub returns-in-Ok-clause-sound : goal.returns-in-Ok-clause-sound
returns-in-Ok-clause-sound g c = rw c.of.ensures at c.returned_by_lookup-returned.ensures.sound

pub returns-in-Ok-clause-fewest : goal.returns-in-Ok-clause-fewest
returns-in-Ok-clause-fewest g c = rw c.of.ensures at c.returned_by_lookup-returned.ensures.fewest

pub returns-in-Ok-clause-returns : goal.returns-in-Ok-clause-returns
returns-in-Ok-clause-returns g c = rw c.of.ensures at c.returned_by_lookup-returned.ensures.returns

pub returns-in-Ok-clause-refused : goal.returns-in-Ok-clause-refused
returns-in-Ok-clause-refused g c = rw c.of.ensures at c.returned_by_lookup-returned.ensures.refused
