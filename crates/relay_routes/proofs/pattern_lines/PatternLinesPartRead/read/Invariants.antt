use Rattle.std.proofs.Common.{◌≡◌, ◌++◌, length, map}
use Rattle.std.specs.Prelude.{filter_map, flat_map}
use Rattle.relay_halves.specs.Halves.{moved, lines_behind, AreUpTo}
use Rattle.relay_routes.specs.PatternLines.{entry_of, bad_in, orphan_faults}
use Rattle.relay_routes.proofs.pattern_lines.PatternLinesPartRead.read.Given as goal

-- what was gathered so far, with what the lines left give, is what all lines give
abbrev pub invariant-loop-joined : goal.invariant-loop-joined
invariant-loop-joined l = record {
  entries : l.said.entries.items ++ filter_map entry_of (map (moved l.passed) l.lines.lines) ≡ filter_map entry_of (lines_behind l.passed l.bytes).lines;
  faults : l.said.faults.items ++ flat_map bad_in (map (moved l.passed) l.lines.lines) ≡ orphan_faults (lines_behind l.passed l.bytes).orphans ++ flat_map bad_in (lines_behind l.passed l.bytes).lines;
  numbers : AreUpTo (length l.bytes) l.lines.lines;
}

abbrev pub decreases-loop-joined : goal.decreases-loop-joined
decreases-loop-joined l = length l.lines.lines
