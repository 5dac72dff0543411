use Rattle.std.proofs.Common.{◌≡◌, ◌+◌, ◌≤◌, length}
use Rattle.relay_text.specs.Lines.{raw_lines}
use Rattle.relay_gather.proofs.origins.line_count.Given as goal

-- the lines that were passed are counted, and each has a byte
abbrev pub invariant-loop-after : goal.invariant-loop-after
invariant-loop-after l = record {
  counts : l.count + length (raw_lines l.rest) ≡ length (raw_lines l.fn.text);
  few : l.count + length l.rest ≤ length l.fn.text;
}

abbrev pub decreases-loop-after : goal.decreases-loop-after
decreases-loop-after l = length l.rest
