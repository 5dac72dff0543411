use Rattle.std.proofs.Common.{◌≡◌, ◌⊎◌, true, [], length, take}
use Rattle.std.specs.Prelude.{All}
use Rattle.relay_tables.specs.Graphs.{child_numbers}
use Rattle.relay_loops.specs.Leading.{is_marked}
use Rattle.relay_loops.proofs.leading.parents_marked.Given as goal

abbrev pub invariant-loop-node : goal.invariant-loop-node
invariant-loop-node l = record {
  sized : length l.marks.items ≡ length l.graph.nodes;
  marked : All (λ n. (child_numbers l.graph n ≡ []) ⊎ (is_marked l.marks.items n ≡ true)) (take l.node-index l.reached);
}
