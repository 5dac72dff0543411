use Rattle.aliasplan_explain.proofs.explaining.telling_from.Goals as goal

pub of-requires : goal.of-requires
of-requires g c = c.parsed_is_readable.ensures.job_batches c.args.crew.now.limits.bytes c.args.job.now c.requires.job

pub returns-in-Ok-clause-telling : goal.returns-in-Ok-clause-telling
returns-in-Ok-clause-telling g c = rw (c.new-grounds.ensures.job, c.new-grounds.ensures.lines) at c.in-Ok.ensures
