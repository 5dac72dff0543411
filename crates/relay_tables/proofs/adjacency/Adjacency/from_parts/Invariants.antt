use Rattle.std.proofs.Common.{◌≡◌, take}
use Rattle.relay_tables.specs.Adjacency.{lists_of}
use Rattle.relay_tables.proofs.adjacency.Adjacency.from_parts.Given as goal

abbrev pub invariant-loop-number : goal.invariant-loop-number
invariant-loop-number l = l.made ≡ take l.number (lists_of l.numbers.items l.ends.items)
