use Rattle.std.proofs.Common.{◌≡◌, ◌<◌, All, length}
use Rattle.relay_loops.specs.Naming.{work_left, GoesOn}
use Rattle.relay_loops.proofs.pivots.Walk.walk_from.Given as goal

abbrev pub invariant-loop-last : goal.invariant-loop-last
invariant-loop-last l = record {
  sized : length l.self.fresh.items ≡ length l.graph.nodes;
  within : All (λ visit. visit.node < length l.self.fresh.items) l.self.path.items;
  onward : GoesOn l.initial.self.fresh.items l.initial.self.path.items l.initial.self.order.items l.self.fresh.items l.self.path.items l.self.order.items;
}

abbrev pub decreases-loop-last : goal.decreases-loop-last
decreases-loop-last l = work_left l.self.fresh.items l.self.path.items
