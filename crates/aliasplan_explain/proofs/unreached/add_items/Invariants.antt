use Rattle.std.proofs.Common.{◌≡◌, ◌++◌, Some, length, drop, map, slice_get}
use Rattle.relay_aliasfile.specs.ItemPlaces.{place_value}
use Rattle.relay_tables.specs.declared.node.Node.{Node}
use Rattle.relay_tables.specs.Graphs.{child_numbers}
use Rattle.relay_explain.specs.declared.entry.Entry.{Entry}
use Rattle.relay_planning.specs.Delivery.{directory_of}
use Rattle.aliasplan_explain.specs.Rows.{listed_in}
use Rattle.aliasplan_explain.specs.Targets.{entry_at}
use Rattle.aliasplan_explain.specs.Unreached.{numbered_for}
use Rattle.aliasplan_explain.proofs.unreached.add_items.Given as goal

-- what is still to come completes what is there
abbrev pub invariant-loop-child : goal.invariant-loop-child
invariant-loop-child l = (node : Node) (entry : Entry) → slice_get l.grounds.basis.now.graph.nodes l.from ≡ Some node → entry_at (directory_of l.grounds.job.now) node ≡ Some entry
    → l.listed.items ++ numbered_for l.target (drop (length l.yielded) (child_numbers l.grounds.basis.now.graph l.from)) (drop (length l.yielded) (map (listed_in entry) (map place_value l.row)))
    ≡ l.fn.listed.items ++ numbered_for l.target (child_numbers l.grounds.basis.now.graph l.from) (map (listed_in entry) (map place_value l.row))
