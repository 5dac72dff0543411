use Rattle.std.proofs.Common.{◌≡◌, Some, take, slice_get}
use Rattle.std.specs.Prelude.{flat_map}
use Rattle.relay_tables.specs.declared.node.Node.{Node}
use Rattle.relay_tables.specs.Graphs.{entry_nodes}
use Rattle.relay_planning.specs.Delivery.{directory_of}
use Rattle.aliasplan_explain.specs.Unreached.{listed_of}
use Rattle.aliasplan_explain.proofs.unreached.listed_for.Given as goal

-- the items of the entries so far
abbrev pub invariant-loop-from : goal.invariant-loop-from
invariant-loop-from l = (node : Node) → slice_get l.grounds.basis.now.graph.nodes l.target ≡ Some node → l.listed.items ≡ flat_map (listed_of l.grounds.job.now node) (take l.from-index (entry_nodes (directory_of l.grounds.job.now)))
