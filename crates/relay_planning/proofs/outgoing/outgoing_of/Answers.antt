use Rattle.relay_planning.proofs.OutgoingFacts.{known_first, outgoing_first}
use Rattle.relay_planning.proofs.outgoing.outgoing_of.Goals as goal

pub add_all-requires-clause-known : goal.add_all-requires-clause-known
add_all-requires-clause-known g c =
    let h = c.in_ok-outgoing.ensures in
    rw (h.graph, h.empty.0) (known_first c.args.job.now c.args.graph.now c.args.destinations.now.routes c.in_ok-outgoing.outgoing.known.items c.args.lines.now h.unseen.0 h.unseen.1)

pub add_all-requires-clause-outgoing : goal.add_all-requires-clause-outgoing
add_all-requires-clause-outgoing g c =
    let h = c.in_ok-outgoing.ensures in
    rw (h.graph, h.empty.1) (outgoing_first c.args.job.now c.args.graph.now c.in_ok-outgoing.outgoing.known.items)

pub add_all-requires-clause-in_graph : goal.add_all-requires-clause-in_graph
add_all-requires-clause-in_graph g c = rw (c.in_ok-outgoing.ensures.graph) c.requires.in_graph

pub returns-clause-known : goal.returns-clause-known
returns-clause-known g c = rw (c.in_ok-outgoing.ensures.graph) at c.in_ok-add_all.ensures.known

pub returns-clause-outgoing : goal.returns-clause-outgoing
returns-clause-outgoing g c = rw (c.in_ok-outgoing.ensures.graph) at c.in_ok-add_all.ensures.outgoing

pub returns-clause-lines : goal.returns-clause-lines
returns-clause-lines g c = λ q. rw (c.in_ok-outgoing.ensures.graph) at (c.in_ok-add_all.ensures.lines q)
