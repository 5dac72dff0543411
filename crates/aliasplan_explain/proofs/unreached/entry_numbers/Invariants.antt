use Rattle.relay_planning.specs.Delivery.{directory_of}
use Rattle.aliasplan_explain.proofs.UnreachedFacts.{AreSet}
use Rattle.aliasplan_explain.proofs.unreached.entry_numbers.Given as goal

-- the entries among the nodes before this one have their numbers
abbrev pub invariant-loop-number : goal.invariant-loop-number
invariant-loop-number l = AreSet (directory_of l.grounds.job.now) l.grounds.basis.now.graph.nodes l.number l.numbers.items
