use Rattle.relay_planning.specs.Delivery.{directory_of}
use Rattle.relay_wire.proofs.Results.{if_ok_both}
use Rattle.relay_planning.proofs.ReachFacts.{nodes_reached}
use Rattle.relay_planning.proofs.planning.nodes_of.Goals as goal

pub returns-clause-reached : goal.returns-clause-reached
returns-clause-reached c =
    let job = c.args.job.now in
    let graph = c.args.graph.now in
    let numbers = c.pairs_by_numbers.ensures (directory_of job) job.sender job.recipients graph c.requires.graph in
    if_ok_both c.reached_nodes.result c.reached_nodes.ensures.nodes c.reached_nodes.ensures.closed
    (λ nodes are closed. nodes_reached job graph numbers c.args.pairs.now c.requires.pairs c.requires.graph nodes.items are closed.in_graph)
