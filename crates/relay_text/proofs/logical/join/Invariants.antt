use Rattle.std.proofs.Common.{◌≡◌, ◌++◌, [], None, length}
use Rattle.std.specs.List.{flat_map}
use Rattle.relay_text.specs.Lines.{begins_logical_line, cut_before}
use Rattle.relay_text.specs.KeptLines.{kept_rest}
use Rattle.relay_text.specs.LogicalLines.{kept_left}
use Rattle.relay_text.proofs.logical.join.Given as goal

-- what is joined, with the lines left that go on, is what all of them make
abbrev pub invariant-loop-line : goal.invariant-loop-line
invariant-loop-line l = record {
  joined : l.joined.items ++ flat_map (λ l. l.text) (cut_before begins_logical_line (kept_left l.next l.kept)).before ≡ l.first ++ flat_map (λ l. l.text) (cut_before begins_logical_line (kept_left l.fn.next l.fn.kept)).before;
  left : (cut_before begins_logical_line (kept_left l.next l.kept)).pieces ≡ (cut_before begins_logical_line (kept_left l.fn.next l.fn.kept)).pieces;
  ended : l.next ≡ None → kept_rest l.kept ≡ [];
}

abbrev pub decreases-loop-line : goal.decreases-loop-line
decreases-loop-line l = length (kept_left l.next l.kept)
