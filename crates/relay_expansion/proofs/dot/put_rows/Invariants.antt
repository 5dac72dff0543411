use Rattle.std.proofs.Common.{◌≡◌, length}
use Rattle.relay_expansion.specs.Dots.{IsDotFront}
use Rattle.relay_expansion.proofs.dot.put_rows.Given as goal

abbrev pub invariant-loop-index : goal.invariant-loop-index
invariant-loop-index l = record {
  sized : length l.canvas.is_drawn.items ≡ length l.graph.nodes;
  told : IsDotFront l.tables l.graph l.canvas.out.items;
}
