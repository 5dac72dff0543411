use Rattle.std.proofs.Common.{◌≡◌, true, false, None}
use Rattle.std.specs.Io.KnownBytes.{IsAtEnd, prepend_known}
use Rattle.aliasplan_each.specs.Feeding.{room}
use Rattle.aliasplan_each.proofs.ReplyFacts.{RepliedKnown}
use Rattle.aliasplan_each.proofs.beside.answer_asks.Given as goal

abbrev pub invariant-loop-answers : goal.invariant-loop-answers
invariant-loop-answers g l = record {
  works : g.F.Feed.has_failed l.reader ≡ false;
  told : g.F.Feed.has_ended l.reader ≡ true → IsAtEnd (g.F.Feed.remaining l.reader);
  writes : g.S.Sink.has_failed l.writer ≡ false;
  asked : l.feeding.asked ≡ true → l.feeding.begun ≡ None;
  replied : RepliedKnown l.crew.limits l.wording l.fn.planner (g.T.TablesSource.coming l.fn.source) (g.F.Feed.remaining l.fn.reader) l.feeding.number l.feeding.asked l.feeding.begun (prepend_known l.feeding.pending (g.F.Feed.remaining l.reader)) (g.S.Sink.contents l.fn.writer) (g.S.Sink.contents l.writer) l.answers.counts l.planner (g.T.TablesSource.coming l.source);
}

abbrev pub decreases-loop-answers : goal.decreases-loop-answers
decreases-loop-answers g l = room l.feeding.number l.feeding.asked l.feeding.begun
