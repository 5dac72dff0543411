use Rattle.std.proofs.Common.{◌≡◌, ◌++◌, flat_map, take}
use Rattle.relay_expansion.specs.Trees.{tree_line}
use Rattle.relay_expansion.proofs.tree.put_rows.Given as goal

abbrev pub invariant-loop-row : goal.invariant-loop-row
invariant-loop-row l = l.out.items ≡ l.initial.out.items ++ flat_map (tree_line l.tables l.graph) (take l.row-index l.rows)
