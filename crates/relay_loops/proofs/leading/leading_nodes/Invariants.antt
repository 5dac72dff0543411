use Rattle.relay_loops.specs.Leading.{AreLoopsMarked, HasLoops}
use Rattle.relay_loops.proofs.leading.leading_nodes.Given as goal

abbrev pub decreases-loop-nodes : goal.decreases-loop-nodes
decreases-loop-nodes l = l.before

abbrev pub invariant-loop-nodes : goal.invariant-loop-nodes
invariant-loop-nodes l = record {
  marked : AreLoopsMarked l.graph l.reached l.marks.items;
  has : HasLoops l.graph l.reached l.nodes.items;
}
