use Rattle.std.proofs.Common.{◌+◌, ◌-◌, ◌≤◌, length, vec_capacity, vec_len}
use Rattle.relay_delivery.specs.Orders.{route_key}
use Rattle.relay_delivery.specs.Ranks.{AreKeysSoFar}
use Rattle.relay_delivery.proofs.route_order.route_keys.Given as goal

abbrev pub invariant-loop-index : goal.invariant-loop-index
invariant-loop-index l = record {
  keys : AreKeysSoFar route_key (λ r. Unit {0}) l.routes l.keys.items l.index;
  room : vec_len l.keys + (length l.routes - l.index) ≤ vec_capacity l.keys;
}
