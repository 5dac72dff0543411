use Rattle.std.proofs.Common.{arith, ◌∙◌, ap, sym, below_more}
use Rattle.std.proofs.lemmas.Option.{get_or_from_slice_get}
use Rattle.relay_tables.specs.declared.node.Node.{Node}
use Rattle.relay_tables.specs.Graphs.{same_node}
use Rattle.aliasplan_explain.proofs.NodeFacts.{position_at, position_none}
use Rattle.aliasplan_explain.proofs.nodes.number_of.Goals as goal

pub returns-then-is_same_node : goal.returns-then-is_same_node
returns-then-is_same_node c =
    let nodes = c.args.graph.now.nodes in
    let node = c.args.node.now in
    let here = get_or_from_slice_get nodes c.loop-number.number c.node.result.now node c.node.ensures in
    sym (position_at (same_node node) nodes c.loop-number.number node (omega arith) c.loop-number.invariant (ap (λ (x : Node). same_node node x) here ∙ sym c.if-is_same_node.ensures))

pub loop-number-preserved : goal.loop-number-preserved
loop-number-preserved c =
    let nodes = c.args.graph.now.nodes in
    let node = c.args.node.now in
    let here = get_or_from_slice_get nodes c.loop-number.number c.node.result.now node c.node.ensures in
    below_more _ _ c.loop-number.invariant (ap (λ (x : Node). same_node node x) here ∙ sym c.if-is_same_node.ensures)

pub returns : goal.returns
returns c =
    sym (position_none (same_node c.args.node.now) c.args.graph.now.nodes c.loop-number.number c.args.node.now (omega arith) c.loop-number.invariant)
