use Rattle.std.proofs.Common.{◌≡◌, ◌+◌, ◌-◌, ◌≤◌, length, drop, vec_capacity, vec_len}
use Rattle.relay_delivery.specs.Placings.{senders_of, IsSender}
use Rattle.relay_delivery.specs.Orders.{sender_key}
use Rattle.relay_delivery.specs.WrittenPaths.{paths_of}
use Rattle.relay_delivery.specs.Ranks.{AreKeysSoFar}
use Rattle.relay_delivery.proofs.sender_order.sender_keys.Given as goal

abbrev pub invariant-loop-index : goal.invariant-loop-index
invariant-loop-index l = record {
  keys : AreKeysSoFar sender_key IsSender (senders_of l.senders) l.keys.items l.index;
  left : l.rest ≡ paths_of (drop l.index (senders_of l.senders));
  room : vec_len l.keys + (length l.senders - l.index) ≤ vec_capacity l.keys;
}
