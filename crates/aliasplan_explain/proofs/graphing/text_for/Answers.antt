use Rattle.aliasplan_explain.proofs.graphing.text_for.Goals as goal

pub read_by-read-requires-clause-job : goal.read_by-read-requires-clause-job
read_by-read-requires-clause-job g c = λ l m. c.parsed_is_readable.ensures.tables c.args.crew.now.limits.bytes c.args.tables.now c.args.crew.now.limited.bytes c.requires

pub joined-job-requires : goal.joined-job-requires
joined-job-requires g c = c.parsed_is_readable.ensures.table_batches c.args.crew.now.limits.bytes c.args.tables.now c.requires

pub returns-in-Ok-clause-refused : goal.returns-in-Ok-clause-refused
returns-in-Ok-clause-refused g c = rw c.joined-job.ensures at c.text_by_tables-text.ensures.refused
