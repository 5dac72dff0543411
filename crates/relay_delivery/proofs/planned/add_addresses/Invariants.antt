use Rattle.std.proofs.Common.{◌≡◌, ◌+◌, ◌-◌, ◌≤◌, ◌++◌, length, map, take, vec_capacity, vec_len}
use Rattle.relay_delivery.specs.Cuts.{address_at}
use Rattle.relay_delivery.proofs.planned.add_addresses.Given as goal

abbrev pub invariant-loop-item : goal.invariant-loop-item
invariant-loop-item l = record {
  to : l.to.items ≡ l.fn.to.items ++ map (address_at l.recipients) (take l.item-index l.items);
  room : vec_len l.to + (length l.items - l.item-index) ≤ vec_capacity l.to;
}
