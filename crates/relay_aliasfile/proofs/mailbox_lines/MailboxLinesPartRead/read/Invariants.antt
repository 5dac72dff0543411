use Rattle.std.proofs.Common.{◌≡◌, ◌++◌, length, map}
use Rattle.std.specs.Prelude.{filter_map, flat_map}
use Rattle.relay_text.specs.KeptLines.{kept_rest}
use Rattle.relay_halves.specs.Halves.{moved, kept_behind, AreUpTo}
use Rattle.relay_aliasfile.specs.MailboxFiles.{name_in, faults_in}
use Rattle.relay_aliasfile.proofs.mailbox_lines.MailboxLinesPartRead.read.Given as goal

-- what was gathered so far, with what the lines left give, is what all lines give
abbrev pub invariant-loop-line : goal.invariant-loop-line
invariant-loop-line l = record {
  names : l.said.names.items ++ filter_map name_in (map (moved l.passed) (kept_rest l.lines)) ≡ filter_map name_in (kept_behind l.passed l.bytes);
  faults : l.said.faults.items ++ flat_map faults_in (map (moved l.passed) (kept_rest l.lines)) ≡ flat_map faults_in (kept_behind l.passed l.bytes);
  numbers : AreUpTo (length l.bytes) (kept_rest l.lines);
}

abbrev pub decreases-loop-line : goal.decreases-loop-line
decreases-loop-line l = length (kept_rest l.lines)
