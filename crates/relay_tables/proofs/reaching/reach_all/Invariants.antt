use Rattle.std.proofs.Common.{◌≡◌, ◌-◌, length}
use Rattle.std.specs.Option.{option_map}
use Rattle.relay_tables.specs.Reaches.{IsReach}
use Rattle.relay_tables.proofs.reaching.reach_all.Given as goal

abbrev pub invariant-nodes : goal.invariant-nodes
invariant-nodes l = record {
  reach : IsReach l.tables (option_map (λ a. a.now) l.sender) l.recipients l.found;
  limit : l.found.names.limit ≡ l.names;
}

abbrev pub decreases-nodes : goal.decreases-nodes
decreases-nodes l = l.names - length l.found.children
