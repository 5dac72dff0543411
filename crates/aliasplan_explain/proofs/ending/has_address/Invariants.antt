use Rattle.std.proofs.Common.{◌≡◌, ℕ, ◌<◌, false, get_or}
use Rattle.relay_tables.specs.Graphs.{same_address}
use Rattle.aliasplan_explain.proofs.ending.has_address.Given as goal

-- no recipient before this one is the address
abbrev pub invariant-loop-recipient : goal.invariant-loop-recipient
invariant-loop-recipient l = (k : ℕ) → k < l.recipient-index → same_address (get_or l.planned.to k l.address) l.address ≡ false
