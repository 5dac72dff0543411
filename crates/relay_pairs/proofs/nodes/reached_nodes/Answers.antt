use Rattle.std.proofs.Common.{◌<◌, ℕ, List, Bool, sym, subst}
use Rattle.std.specs.Prelude.{All}
use Rattle.relay_pairs.specs.declared.reached.Reached.{Reached}
use Rattle.relay_pairs.specs.Marks.{AreMarked}
use Rattle.relay_pairs.proofs.NodeFacts.{nodes_below, nodes_are, nodes_closed}
use Rattle.relay_pairs.proofs.nodes.reached_nodes.Goals as goal

pub marks_of-requires : goal.marks_of-requires
marks_of-requires c = subst (λ (n : ℕ). All (λ (p : Reached). p.node < n) c.args.pairs.now) (sym c.nodes.ensures.value) (nodes_below c.args.graph.now c.args.pairs.now c.nodes.ensures.closed c.requires.pairs)

pub returns-clause-nodes : goal.returns-clause-nodes
returns-clause-nodes c =
    let marked = subst (λ (ms : List Bool). AreMarked ms c.in_ok-reached.reached.items) c.deref.ensures.value c.in_ok-reached.ensures in
    nodes_are c.args.pairs.now c.in_ok-marks.marks.items c.in_ok-reached.reached.items c.in_ok-marks.ensures.marks marked

pub returns-clause-closed : goal.returns-clause-closed
returns-clause-closed c =
    let marked = subst (λ (ms : List Bool). AreMarked ms c.in_ok-reached.reached.items) c.deref.ensures.value c.in_ok-reached.ensures in
    let are = nodes_are c.args.pairs.now c.in_ok-marks.marks.items c.in_ok-reached.reached.items c.in_ok-marks.ensures.marks marked in
    nodes_closed c.args.graph.now c.args.pairs.now c.in_ok-reached.reached.items c.nodes.ensures.closed c.requires.pairs are
