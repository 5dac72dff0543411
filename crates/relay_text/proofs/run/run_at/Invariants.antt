use Rattle.std.proofs.Common.{◌≡◌, ◌+◌, ◌==◌, ◌≤◌, drop, true}
use Rattle.std.specs.List.{prefix_len}
use Rattle.relay_text.specs.Runs.{part_byte, run_byte, run_len}
use Rattle.relay_text.proofs.Runs.{joined_from}
use Rattle.relay_text.proofs.run.run_at.Given as goal

-- what is left goes on with what was passed
abbrev pub invariant-loop-len : goal.invariant-loop-len
invariant-loop-len l = record {
  behind : l.start ≤ l.len;
  passed : l.len + prefix_len (run_byte l.part) (drop l.len l.text) ≡ run_len l.part l.text;
  sound : joined_from (part_byte l.part) l.is_sound (l.start == l.len) (drop l.len l.text) ≡ joined_from (part_byte l.part) true true l.text;
}
