use Rattle.std.proofs.Common.{◌≡◌, ◌++◌, ◌-◌, ◌^◌, length, map}
use Rattle.relay_aliasfile.specs.AliasTables.{added_by, new_entries, new_faults}
use Rattle.relay_halves.specs.Halves.{moved, AreUpTo}
use Rattle.relay_aliasfile.proofs.aliases.add_lines.Given as goal

-- what was added, with what the lines left add, is what all lines add
abbrev pub invariant-loop-joined : goal.invariant-loop-joined
invariant-loop-joined g l = record {
  entries : l.table.entries.items ++ added_by new_entries l.table.repeats.now (map (moved l.passed) l.lines.lines) ≡ l.fn.table.entries.items ++ added_by new_entries l.fn.table.repeats.now (map (moved l.passed) l.fn.lines.lines);
  faults : l.table.faults.items ++ added_by new_faults l.table.repeats.now (map (moved l.passed) l.lines.lines) ≡ l.fn.table.faults.items ++ added_by new_faults l.fn.table.repeats.now (map (moved l.passed) l.fn.lines.lines);
  numbers : AreUpTo (2 ^ 64 - 1 - l.passed) l.lines.lines;
}

abbrev pub decreases-loop-joined : goal.decreases-loop-joined
decreases-loop-joined g l = length l.lines.lines
