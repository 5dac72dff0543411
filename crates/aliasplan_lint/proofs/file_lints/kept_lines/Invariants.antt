use Rattle.std.proofs.Common.{length}
use Rattle.relay_text.specs.KeptLines.{kept_rest}
use Rattle.aliasplan_lint.proofs.file_lints.kept_lines.Given as goal

abbrev pub decreases-loop-line : goal.decreases-loop-line
decreases-loop-line l = length (kept_rest l.lines)
