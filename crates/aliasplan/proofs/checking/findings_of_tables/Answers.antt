use Rattle.aliasplan.proofs.checking.findings_of_tables.Goals as goal

pub read_by-requires-clause-job : goal.read_by-requires-clause-job
read_by-requires-clause-job g c = λ l m. c.parsed_is_readable.ensures.tables c.args.crew.now.limits.bytes c.args.tables.now c.args.crew.now.limited.bytes c.requires

pub findings_of_aliases-requires-clause-batches : goal.findings_of_aliases-requires-clause-batches
findings_of_aliases-requires-clause-batches g c = λ l m t. c.parsed_is_readable.ensures.table_batches c.args.crew.now.limits.bytes c.args.tables.now c.requires t

pub findings_of_aliases-requires-clause-lines : goal.findings_of_aliases-requires-clause-lines
findings_of_aliases-requires-clause-lines g c = λ l m q. rw c.new-lines.ensures at c.in-Ok.ensures.lines q
