use Rattle.std.proofs.Common.{◌≡◌, ◌+◌, ◌-◌, ◌≤◌, length, map, take, vec_capacity, vec_len}
use Rattle.relay_delivery.specs.Cuts.{route_at}
use Rattle.relay_delivery.specs.Groups.{limit_at}
use Rattle.relay_delivery.specs.Placings.{routes_of}
use Rattle.relay_delivery.specs.declared.group_numbers.GroupNumbers.{GroupNumbers}
use Rattle.relay_delivery.proofs.cutting.limits_by_key.Given as goal

abbrev pub invariant-loop-group : goal.invariant-loop-group
invariant-loop-group l = record {
  limits : l.by_key.items ≡ map (λ (g : GroupNumbers). limit_at l.limits (route_at (routes_of l.routes) g.route).transport) (take l.group-index l.groups);
  room : vec_len l.by_key + (length l.groups - l.group-index) ≤ vec_capacity l.by_key;
}
