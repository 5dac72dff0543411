use Rattle.aliasplan.proofs.asking.domains.Goals as goal

pub read_by-read-requires-clause-job : goal.read_by-read-requires-clause-job
read_by-read-requires-clause-job g c = λ l m. c.parsed_is_readable.ensures.jobs c.args.crew.now.limits.bytes c.args.job.now c.args.crew.now.limited.bytes c.requires.job

pub of-requires : goal.of-requires
of-requires g c = c.parsed_is_readable.ensures.job_batches c.args.crew.now.limits.bytes c.args.job.now c.requires.job

pub returns-in-Ok-clause-refused : goal.returns-in-Ok-clause-refused
returns-in-Ok-clause-refused g c = rw c.of.ensures at c.domains_by_lookup-domains.ensures.refused
