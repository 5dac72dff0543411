use Rattle.std.proofs.Common.{◌≡◌, length, take}
use Rattle.relay_pairs.specs.Marks.{AreMarks}
use Rattle.relay_pairs.proofs.nodes.marks_of.Given as goal

abbrev pub invariant-loop-pair : goal.invariant-loop-pair
invariant-loop-pair l = record {
  marks : AreMarks (take l.pair-index l.pairs) l.marks.items;
  long : length l.marks.items ≡ l.nodes;
}
