use Rattle.std.proofs.Common.{◌≡◌, ◌++◌, length}
use Rattle.std.specs.Prelude.{flat_map}
use Rattle.relay_text.specs.Lines.{kept_lines}
use Rattle.relay_text.specs.KeptLines.{kept_rest}
use Rattle.relay_aliasfile.specs.IncludeFiles.{items_in, faults_in}
use Rattle.relay_aliasfile.proofs.includes.parse_include.Given as goal

-- what was gathered so far, with what the lines left give, is what all lines give
abbrev pub invariant-loop-faults : goal.invariant-loop-faults
invariant-loop-faults l = record {
  items : l.items.items ++ flat_map items_in (kept_rest l.lines) ≡ flat_map items_in (kept_lines l.bytes);
  faults : l.faults.items ++ flat_map faults_in (kept_rest l.lines) ≡ flat_map faults_in (kept_lines l.bytes);
}

abbrev pub decreases-loop-faults : goal.decreases-loop-faults
decreases-loop-faults l = length (kept_rest l.lines)
