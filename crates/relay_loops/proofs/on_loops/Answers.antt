use Rattle.relay_loops.proofs.Closing.{if_ok_then}
use Rattle.relay_loops.proofs.Trimming.{within_graph}
use Rattle.relay_loops.proofs.on_loops.Goals as goal

pub first_places-requires : goal.first_places-requires
first_places-requires g c = rw (c.deref.ensures.value, c.in_ok-graph.ensures) (within_graph c.args.graph.now c.args.reached.now c.requires.reached c.in_ok-nodes.nodes.items c.in_ok-nodes.ensures)

pub loops_among-requires-clause-nodes : goal.loops_among-requires-clause-nodes
loops_among-requires-clause-nodes g c κs below =
    rw (c.deref-2.ensures.value, c.in_ok-graph.ensures) (within_graph c.args.graph.now c.args.reached.now c.requires.reached c.in_ok-nodes.nodes.items c.in_ok-nodes.ensures)

pub returns : goal.returns
returns g c =
    if_ok_then c.loops_among.result _ _ c.loops_among.ensures (λ loops h.
    let found = h c.args.reached.now (rw c.in_ok-graph.ensures c.requires.reached) (rw (c.deref-2.ensures.value, c.in_ok-graph.ensures) c.in_ok-nodes.ensures) in
    rw c.in_ok-graph.ensures at found)
