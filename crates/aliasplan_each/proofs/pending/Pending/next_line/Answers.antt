use Rattle.std.proofs.Common.{arith}
use Rattle.std.proofs.lemmas.Grind.{common_steps}
use Rattle.aliasplan_each.proofs.PieceFacts.{IsBegun-kept, IsBegun-more, LosesLine-whole, LosesLine-last, ends_once-moved, ends_once-last}
use Rattle.aliasplan_each.proofs.pending.Pending.next_line.Goals as goal

pub returns-then-not-branch-clause-line : goal.returns-then-not-branch-clause-line
returns-then-not-branch-clause-line g c = λ e. LosesLine-last _ _ _ (g.F.Feed.remaining c.fill.new.reader) _ _ (IsBegun-kept _ _ _ _ _ _ c.loop.invariant.begun c.in_ok-fill.ensures.kept) (grind (arith, common_steps)) (grind (arith, common_steps)) (grind (arith, common_steps))

pub returns-then-not-branch-clause-ends_once : goal.returns-then-not-branch-clause-ends_once
returns-then-not-branch-clause-ends_once g c = ends_once-last _ _ _ _ _ c.loop.invariant.begun

pub returns-then-is_whole-clause-line : goal.returns-then-is_whole-clause-line
returns-then-is_whole-clause-line g c = λ _. LosesLine-whole _ _ _ _ (g.F.Feed.remaining c.fill.new.reader) _ _ _ _ _ (IsBegun-kept _ _ _ _ _ _ c.loop.invariant.begun c.in_ok-fill.ensures.kept) c.in_ok-is_whole.ensures c.truncate.ensures.items c.if-is_whole.true

pub returns-then-is_whole-clause-ends_once : goal.returns-then-is_whole-clause-ends_once
returns-then-is_whole-clause-ends_once g c = ends_once-moved _ _ _ _ (g.F.Feed.remaining c.fill.new.reader) _ _ _ _ _ (IsBegun-kept _ _ _ _ _ _ c.loop.invariant.begun c.in_ok-fill.ensures.kept) c.in_ok-is_whole.ensures c.truncate.ensures.items

pub loop-preserved : goal.loop-preserved
loop-preserved g c = record {
  works = c.in_ok-fill.ensures.works;
  told = c.in_ok-fill.ensures.told;
  begun = IsBegun-more _ _ _ _ (g.F.Feed.remaining c.fill.new.reader) _ _ _ _ _ (IsBegun-kept _ _ _ _ _ _ c.loop.invariant.begun c.in_ok-fill.ensures.kept) c.in_ok-is_whole.ensures c.truncate.ensures.items c.if-is_whole.false;
}
