use Rattle.relay_tables.proofs.GraphsFrom.{from_whole}
use Rattle.relay_planning.specs.Delivery.{directory_of}
use Rattle.relay_planning.proofs.LimitFacts.{within_by, refused_by}
use Rattle.relay_planning.proofs.planning.graph_of.Goals as goal

pub returns-in-Ok-clause-graph : goal.returns-in-Ok-clause-graph
returns-in-Ok-clause-graph g c = rw (c.requires.tables, c.sender.ensures, c.recipients.ensures) at c.in-Ok.ensures.graph

pub returns-in-Ok-clause-part : goal.returns-in-Ok-clause-part
returns-in-Ok-clause-part g c =
    let job = c.args.job.now in
    from_whole (directory_of job) job.sender job.recipients c.in-Ok.graph (rw (c.requires.tables, c.sender.ensures, c.recipients.ensures) at c.in-Ok.ensures.graph)

pub returns-in-Ok-clause-names : goal.returns-in-Ok-clause-names
returns-in-Ok-clause-names g c = (within_by c.args.crew.now.limits c.args.job.now (rw (c.requires.tables, c.recipients.ensures) at c.in-Ok.ensures.refusal)).0

pub returns-in-Ok-clause-owners : goal.returns-in-Ok-clause-owners
returns-in-Ok-clause-owners g c = (within_by c.args.crew.now.limits c.args.job.now (rw (c.requires.tables, c.recipients.ensures) at c.in-Ok.ensures.refusal)).1

pub returns-in-Err-clause-refused : goal.returns-in-Err-clause-refused
returns-in-Err-clause-refused g c =
    rw c.run_fault_of.ensures
    (refused_by c.args.crew.now.limits c.args.job.now c.in-Err.fault (rw (c.requires.tables, c.recipients.ensures) at c.in-Err.ensures.refusal))
