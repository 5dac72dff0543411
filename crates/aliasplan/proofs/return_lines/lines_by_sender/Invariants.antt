use Rattle.std.proofs.Common.{◌≤◌}
use Rattle.aliasplan.specs.ReturnLines.{AreCounted, IsLineBefore, ReportsEach}
use Rattle.aliasplan.proofs.return_lines.lines_by_sender.Given as goal

abbrev pub invariant-loop-place : goal.invariant-loop-place
invariant-loop-place g l = record {
  lines : ReportsEach l.initial.lists.items l.lists.items (IsLineBefore l.search.graph.now l.undelivered l.recipients l.place);
  counted : AreCounted l.search.graph.now l.limit l.left l.place;
  few : l.left ≤ l.limit;
}
