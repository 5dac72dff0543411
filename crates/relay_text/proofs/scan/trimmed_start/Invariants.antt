use Rattle.std.proofs.Common.{◌≡◌, ◌+◌, ◌-◌, length, drop, ◌≤◌}
use Rattle.std.specs.List.{prefix_len}
use Rattle.relay_text.specs.Bytes.{is_white}
use Rattle.relay_text.proofs.scan.trimmed_start.Given as goal

-- What was passed is white.
abbrev pub invariant-loop-start : goal.invariant-loop-start
invariant-loop-start l = record {
  inside : l.start ≤ length l.text;
  passed : l.start + prefix_len is_white (drop l.start l.text) ≡ prefix_len is_white l.text;
}

abbrev pub decreases-loop-start : goal.decreases-loop-start
decreases-loop-start l = length l.text - l.start
