use Rattle.std.proofs.Common.{◌≡◌, ◌≤◌, ◌-◌, ◌^◌, true, false, [], None}
use Rattle.std.specs.Io.KnownBytes.{IsAtEnd, prepend_known}
use Rattle.aliasplan_each.specs.Feeding.{LeadsKnown, room}
use Rattle.aliasplan_each.proofs.feeding.Feeding.next.Given as goal

-- no section was given yet
abbrev pub invariant-loop-self : goal.invariant-loop-self
invariant-loop-self g l = record {
  works : g.F.Feed.has_failed l.reader ≡ false;
  told : g.F.Feed.has_ended l.reader ≡ true → IsAtEnd (g.F.Feed.remaining l.reader);
  empty : l.line.items ≡ [];
  asked : l.self.asked ≡ true → l.self.begun ≡ None;
  leads : LeadsKnown l.max l.fn.self.number l.fn.self.asked l.fn.self.begun (prepend_known l.fn.self.pending (g.F.Feed.remaining l.fn.reader)) [] l.self.number l.self.asked l.self.begun (prepend_known l.self.pending (g.F.Feed.remaining l.reader));
  fewer : room l.self.number l.self.asked l.self.begun ≤ room l.fn.self.number l.fn.self.asked l.fn.self.begun;
}

abbrev pub decreases-loop-self : goal.decreases-loop-self
decreases-loop-self g l = 2 ^ 64 - l.self.number
