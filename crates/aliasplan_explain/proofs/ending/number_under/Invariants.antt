use Rattle.std.proofs.Common.{◌≡◌, ℕ, ◌<◌, get_or, slice_get, Some, Bor}
use Rattle.std.specs.Prelude.{option_map}
use Rattle.relay_text.specs.AddressParts.{AddressParts}
use Rattle.relay_wire.specs.declared.plan.Planned.{Planned}
use Rattle.aliasplan_explain.proofs.ending.number_under.Given as goal

-- no transaction before this one has the sender
abbrev pub invariant-loop-index : goal.invariant-loop-index
invariant-loop-index l = (k : ℕ) → k < l.index-index → option_map (λ (t : Planned). t.from) (slice_get l.transactions (get_or l.indices k 0)) ≡ Some (option_map (λ (a : Bor AddressParts). a.now) l.sender) → ⊥
