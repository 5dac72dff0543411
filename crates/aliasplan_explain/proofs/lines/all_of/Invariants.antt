use Rattle.std.proofs.Common.{◌≡◌, List, ℕ, map, Ok}
use Rattle.aliasplan_explain.proofs.lines.all_of.Given as goal

abbrev pub invariant-loop-text : goal.invariant-loop-text
invariant-loop-text l = map (λ (text : List ℕ). Ok text) l.texts.items ≡ l.yielded
