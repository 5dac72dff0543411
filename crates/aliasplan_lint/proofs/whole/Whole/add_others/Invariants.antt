use Rattle.std.proofs.Common.{◌≡◌, ℕ, ◌<◌, true, false, slice_index_or}
use Rattle.aliasplan_lint.specs.Marks.{AreMarked}
use Rattle.aliasplan_lint.proofs.whole.Whole.add_others.Given as goal

-- those so far are told
abbrev pub invariant-loop-place : goal.invariant-loop-place
invariant-loop-place l = record {
  marked : AreMarked l.findings l.self;
  told : (k : ℕ) → k < l.place → slice_index_or l.self.told.items k false ≡ true;
}
