use Rattle.std.proofs.Common.{◌≡◌, ◌<◌, ℕ, [], false, length, slice_index, Contains}
use Rattle.relay_loops.specs.Naming.{is_fresh, IsKept}
use Rattle.relay_loops.proofs.pivots.pivot_order.Given as goal

abbrev pub invariant-loop-node : goal.invariant-loop-node
invariant-loop-node l = record {
  path : l.walk.path.items ≡ [];
  sized : length l.walk.fresh.items ≡ length l.graph.nodes;
  kept : (n : ℕ) → Contains l.reached n → IsKept l.walk.fresh.items l.walk.path.items l.walk.order.items n;
  passed : (k : ℕ) → k < l.node-index → is_fresh l.walk.fresh.items (slice_index l.reached k) ≡ false;
}
