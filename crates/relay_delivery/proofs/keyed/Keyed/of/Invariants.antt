use Rattle.std.proofs.Common.{◌+◌, ◌-◌, ◌<◌, ◌≤◌, length, vec_capacity, vec_len}
use Rattle.std.specs.List.{All}
use Rattle.relay_delivery.specs.declared.group_numbers.GroupNumbers.{GroupNumbers}
use Rattle.relay_delivery.proofs.KeyedSteps.{IsKeyedUpTo}
use Rattle.relay_delivery.proofs.keyed.Keyed.of.Given as goal

abbrev pub invariant-loop-delivery : goal.invariant-loop-delivery
invariant-loop-delivery l = record {
  keyed : IsKeyedUpTo l.placing.recipients.items l.placing.deliveries.items l.delivery-index l.groups.items l.placed.items;
  range : All (λ (g : GroupNumbers). (g.sender < length l.placing.senders.items) × (g.route < length l.placing.routes.items)) l.groups.items;
  room : vec_len l.placed + (length l.placing.deliveries.items - l.delivery-index) ≤ vec_capacity l.placed;
}
