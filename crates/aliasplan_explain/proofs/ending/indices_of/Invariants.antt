use Rattle.std.proofs.Common.{ℕ, ◌<◌}
use Rattle.std.specs.Prelude.{Contains, ◌↔◌}
use Rattle.aliasplan_explain.specs.Endings.{HasAt}
use Rattle.aliasplan_explain.proofs.ending.indices_of.Given as goal

-- of the transactions before this one, these are the indices of those that have the address
abbrev pub invariant-loop-index : goal.invariant-loop-index
invariant-loop-index l = (k : ℕ) → Contains l.indices.items k ↔ ((k < l.index) × HasAt l.transactions l.address k)
