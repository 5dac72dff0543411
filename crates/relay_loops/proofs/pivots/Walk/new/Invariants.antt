use Rattle.std.proofs.Common.{◌≡◌, ◌<◌, ℕ, true, length, slice_index}
use Rattle.relay_loops.specs.Naming.{is_fresh}
use Rattle.relay_loops.proofs.pivots.Walk.new.Given as goal

abbrev pub invariant-loop-node : goal.invariant-loop-node
invariant-loop-node l = record {
  sized : length l.fresh.items ≡ length l.graph.nodes;
  fresh : (k : ℕ) → k < l.node-index → is_fresh l.fresh.items (slice_index l.reached k) ≡ true;
}
