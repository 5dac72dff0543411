use Rattle.relay_planning.proofs.written.write_job.Goals as goal

pub read_by-requires-clause-job : goal.read_by-requires-clause-job
read_by-requires-clause-job g c = λ l m. c.parsed_is_readable.ensures.jobs c.args.crew.now.limits.bytes c.args.job.now c.args.crew.now.limited.bytes c.requires

pub of-view-requires : goal.of-view-requires
of-view-requires g c = c.parsed_is_readable.ensures.job_batches c.args.crew.now.limits.bytes c.args.job.now c.requires

pub written_by_lookup-requires-clause-lines : goal.written_by_lookup-requires-clause-lines
written_by_lookup-requires-clause-lines g c = λ l m q. rw c.of-view.ensures (rw c.new-lines.ensures at c.in-Ok.ensures.lines q)

pub formed_by_lookup-requires-clause-lines : goal.formed_by_lookup-requires-clause-lines
formed_by_lookup-requires-clause-lines g c = λ l m q. rw c.of-view.ensures (rw c.new-lines.ensures at c.in-Ok.ensures.lines q)

pub returns-in-Plan-clause-refused : goal.returns-in-Plan-clause-refused
returns-in-Plan-clause-refused g c = rw c.of-view.ensures at c.written_by_lookup.ensures.refused

pub returns-in-Wire-clause-refused : goal.returns-in-Wire-clause-refused
returns-in-Wire-clause-refused g c = rw c.of-view.ensures at c.formed_by_lookup.ensures.refused
