use Rattle.std.proofs.Common.{◌≡◌, ◌++◌, [], None, map, length}
use Rattle.relay_text.specs.Lines.{begins_logical_line, cut_before, logical_lines_of}
use Rattle.relay_text.specs.KeptLines.{kept_rest}
use Rattle.relay_text.specs.LogicalLines.{kept_left, lines_in}
use Rattle.relay_text.proofs.logical.LogicalLines.new.Given as goal

-- the orphans so far, with those that are left, and the lines behind them
abbrev pub invariant-loop-line : goal.invariant-loop-line
invariant-loop-line l = record {
  orphans : l.orphans.items ++ map (λ l. l.number) (cut_before begins_logical_line (kept_left l.first l.kept)).before ≡ (logical_lines_of l.bytes).orphans;
  lines : lines_in (kept_left l.first l.kept) ≡ (logical_lines_of l.bytes).lines;
  ended : l.first ≡ None → kept_rest l.kept ≡ [];
}

abbrev pub decreases-loop-line : goal.decreases-loop-line
decreases-loop-line l = length (kept_left l.first l.kept)
