use Rattle.relay_pairs.proofs.MarkFacts.{AreMarkedUpTo}
use Rattle.relay_pairs.proofs.nodes.marked_nodes.Given as goal

abbrev pub invariant-loop-node : goal.invariant-loop-node
invariant-loop-node l = AreMarkedUpTo l.marks l.nodes.items l.node
