use Rattle.std.proofs.Common.{◌≡◌, ℕ, ◌<◌, get_or}
use Rattle.relay_pairs.specs.declared.reached.Reached.{Reached}
use Rattle.aliasplan_explain.proofs.asking.is_reached.Given as goal

-- none of the first pairs has the node
abbrev pub invariant-loop-pair : goal.invariant-loop-pair
invariant-loop-pair l = (k : ℕ) (d : Reached) → k < l.pair-index → (get_or l.pair-items k d).node ≡ l.number → ⊥
