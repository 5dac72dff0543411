use Rattle.relay_tables.proofs.Owned.{AreOwnedAmong}
use Rattle.relay_tables.proofs.owning.entry_owners.Given as goal

-- the owners among the first entries
abbrev pub invariant-loop-number : goal.invariant-loop-number
invariant-loop-number l = AreOwnedAmong l.entries l.number l.owners.items
