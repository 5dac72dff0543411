use Rattle.std.proofs.Common.{◌≡◌, ◌++◌, length}
use Rattle.relay_text.specs.Lines.{logical_lines_of}
use Rattle.relay_text.proofs.lines.logical_lines.Given as goal

-- the lines so far, with those that are left, are all
abbrev pub invariant-loop-joined : goal.invariant-loop-joined
invariant-loop-joined l = record {
  lines : l.lines.items ++ l.left.lines ≡ (logical_lines_of l.bytes).lines;
  orphans : l.left.orphans ≡ (logical_lines_of l.bytes).orphans;
}

abbrev pub decreases-loop-joined : goal.decreases-loop-joined
decreases-loop-joined l = length l.left.lines
