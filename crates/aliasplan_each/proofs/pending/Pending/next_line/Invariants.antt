use Rattle.std.proofs.Common.{◌≡◌, true, false}
use Rattle.std.specs.Io.KnownBytes.{IsAtEnd, prepend_known}
use Rattle.aliasplan_each.proofs.PieceFacts.{IsBegun}
use Rattle.aliasplan_each.proofs.pending.Pending.next_line.Given as goal

abbrev pub invariant-loop : goal.invariant-loop
invariant-loop g l = record {
  works : g.F.Feed.has_failed l.reader ≡ false;
  told : g.F.Feed.has_ended l.reader ≡ true → IsAtEnd (g.F.Feed.remaining l.reader);
  begun : IsBegun l.max l.counter (prepend_known l.fn.self (g.F.Feed.remaining l.fn.reader)) l.line.items (prepend_known l.self (g.F.Feed.remaining l.reader));
}
