use Rattle.aliasplan.specs.Domains.{AsksFor}
use Rattle.relay_planning.proofs.EntryFacts.{one_more, at_start, at_end}
use Rattle.aliasplan.proofs.asking.domains_of_nodes.Goals as goal

pub loop-node-init : goal.loop-node-init
loop-node-init c = λ q. rw (c.new-domains.ensures) (at_start (AsksFor c.args.job.now c.args.graph.now) q _)

pub loop-node-preserved : goal.loop-node-preserved
loop-node-preserved c =
    λ q. one_more (AsksFor c.args.job.now c.args.graph.now) q c.args.nodes.now c.loop-node.node-index _ _ _
    c.loop-node-test.true (c.loop-node.invariant q) (c.in_ok-add_node.ensures q)

pub returns : goal.returns
returns c = λ q. at_end (AsksFor c.args.job.now c.args.graph.now) q c.args.nodes.now c.loop-node.node-index _ _ c.loop-node-test.false (c.loop-node.invariant q)
