use Rattle.std.proofs.Common.{◌≡◌, ℕ, ◌<◌, false, get_or}
use Rattle.relay_tables.specs.Graphs.{same_node}
use Rattle.aliasplan_explain.proofs.nodes.number_of.Given as goal

-- no node before this one is it
abbrev pub invariant-loop-number : goal.invariant-loop-number
invariant-loop-number l = (k : ℕ) → k < l.number → same_node l.node (get_or l.graph.nodes k l.node) ≡ false
