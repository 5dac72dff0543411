use Rattle.relay_planning.specs.Entries.{IsNodeLine}
use Rattle.relay_planning.proofs.EntryFacts.{one_more, at_start, at_end}
use Rattle.relay_planning.proofs.entries.report_nodes.Goals as goal

pub loop-node-init : goal.loop-node-init
loop-node-init g c = λ q. at_start (IsNodeLine c.args.graph.now c.args.tables.now) q _

pub loop-node-preserved : goal.loop-node-preserved
loop-node-preserved g c =
    λ q. one_more (IsNodeLine c.args.graph.now c.args.tables.now) q c.args.nodes.now c.loop-node.node-index _ _ _
    c.loop-node-test.true (c.loop-node.invariant q) (c.in_ok-report_node.ensures q)

pub returns : goal.returns
returns g c = λ q. at_end (IsNodeLine c.args.graph.now c.args.tables.now) q c.args.nodes.now c.loop-node.node-index _ _ c.loop-node-test.false (c.loop-node.invariant q)
