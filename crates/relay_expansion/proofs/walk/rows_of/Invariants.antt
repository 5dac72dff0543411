use Rattle.std.proofs.Common.{◌≡◌, []}
use Rattle.relay_expansion.specs.Rows.{IsWalk, Walks}
use Rattle.relay_expansion.proofs.walk.rows_of.Given as goal

abbrev pub invariant-loop-root : goal.invariant-loop-root
invariant-loop-root l = record {
  walk : IsWalk l.graph l.walk.standings.items l.walk.path.items l.walk.rows.items;
  path : l.walk.path.items ≡ [];
  walks : Walks l.graph l.root-index l.walk.standings.items [] l.walk.rows.items;
}
