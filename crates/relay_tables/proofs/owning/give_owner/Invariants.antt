use Rattle.std.proofs.Common.{◌≤◌, ◌-◌, length}
use Rattle.relay_tables.proofs.Owned.{AreGiven}
use Rattle.relay_tables.proofs.owning.give_owner.Given as goal

-- the entries of the name below the next place have an owner
abbrev pub invariant-loop-place : goal.invariant-loop-place
invariant-loop-place l = (l.next ≤ length l.entries) × AreGiven l.entries l.name l.owner l.next l.initial.owners l.owners

abbrev pub decreases-loop-place : goal.decreases-loop-place
decreases-loop-place l = length l.entries - l.next
