use Rattle.std.proofs.Common.{◌≡◌, ◌++◌, ◌∷◌, [], ℕ, All}
use Rattle.relay_expansion.specs.Rows.{IsRow, visit, Walks}
use Rattle.relay_expansion.proofs.walk.Walk.next_entry.Given as goal

abbrev pub invariant-loop-at : goal.invariant-loop-at
invariant-loop-at l = record {
  told : All (IsRow l.graph) l.self.rows.items;
  standings : l.self.standings ≡ l.initial.self.standings;
  path : l.self.path ≡ l.initial.self.path;
  walks : (asked : ℕ) → Walks l.graph asked l.initial.self.standings.items (l.initial.self.path.items ++ l.last ∷ []) l.initial.self.rows.items → Walks l.graph asked l.initial.self.standings.items (l.initial.self.path.items ++ visit l.last.node l.at ∷ []) l.self.rows.items;
}
