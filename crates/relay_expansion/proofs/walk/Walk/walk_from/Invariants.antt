use Rattle.std.proofs.Common.{ℕ}
use Rattle.relay_expansion.specs.Rows.{IsWalk, work_left, Walks}
use Rattle.relay_expansion.proofs.walk.Walk.walk_from.Given as goal

abbrev pub invariant-loop-last : goal.invariant-loop-last
invariant-loop-last l = record {
  walk : IsWalk l.graph l.self.standings.items l.self.path.items l.self.rows.items;
  walks : (asked : ℕ) → Walks l.graph asked l.initial.self.standings.items l.initial.self.path.items l.initial.self.rows.items → Walks l.graph asked l.self.standings.items l.self.path.items l.self.rows.items;
}

abbrev pub decreases-loop-last : goal.decreases-loop-last
decreases-loop-last l = work_left l.self.standings.items l.self.path.items
