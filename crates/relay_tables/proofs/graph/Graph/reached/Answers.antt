use Rattle.std.proofs.Common.{arith, ◌^◌, ◌≤◌, length}
use Rattle.relay_tables.proofs.ClosedGraphs.{closed_graph}
use Rattle.relay_tables.proofs.Found.{reach_graph}
use Rattle.relay_tables.proofs.graph.Graph.reached.Goals as goal

pub invariant_of-result : goal.invariant_of-result
invariant_of-result c =
    let f = c.in_ok-found.found in
    let d = c.args.tables.now in
    let rs = c.args.recipients.now in
    let graph = reach_graph d _ rs f c.in_ok-found.ensures.reach c.in_ok-found.ensures.all c.into_vec.ensures.distinct in
    let few_nodes : length f.names.nodes ≤ 2 ^ 24 = omega (arith, c.in_ok-found.ensures.nodes, c.requires.names) in
    let few_senders : length f.senders ≤ 2 ^ 32 = omega (arith, c.in_ok-found.ensures.reach.few_senders, c.in_ok-found.ensures.all) in
    rw (c.into_nodes.ensures.nodes, c.into_vec.ensures.senders)
    (record {
      closed = closed_graph d _ rs _ graph few_nodes few_senders;
      few_rows = omega (arith, c.in_ok-found.ensures.all);
    })

pub returns-clause-graph : goal.returns-clause-graph
returns-clause-graph c =
    rw (c.into_nodes.ensures.nodes, c.into_vec.ensures.senders)
    (reach_graph c.args.tables.now _ c.args.recipients.now c.in_ok-found.found c.in_ok-found.ensures.reach c.in_ok-found.ensures.all c.into_vec.ensures.distinct)
