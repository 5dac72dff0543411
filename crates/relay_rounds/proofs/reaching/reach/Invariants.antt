use Rattle.std.proofs.Common.{◌<◌, ◌≤◌, ◌+◌, ◌-◌, ◌*◌, length, min}
use Rattle.std.specs.Prelude.{All}
use Rattle.relay_rounds.specs.Searches.{IsSearch}
use Rattle.relay_rounds.proofs.reaching.reach.Given as goal

abbrev pub invariant-rounds : goal.invariant-rounds
invariant-rounds g l = record {
  search : IsSearch (g.S.Steps.next_keys l.steps) l.roots l.settled l.offered.items;
  below : All (λ key. key < g.S.Steps.key_bound l.steps) l.offered.items;
  within : length l.settled ≤ l.limit;
}

-- a round in which nothing is new is the last
abbrev pub decreases-rounds : goal.decreases-rounds
decreases-rounds g l = 2 * (l.limit - length l.settled) + min 1 (length l.offered.items)
