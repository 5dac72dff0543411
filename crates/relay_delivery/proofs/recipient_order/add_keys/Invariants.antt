use Rattle.std.proofs.Common.{◌≡◌, map, take, drop, vec_capacity}
use Rattle.std.specs.Prelude.{IsTrue}
use Rattle.relay_text.specs.Addresses.{is_address}
use Rattle.relay_delivery.specs.Orders.{moved_key, sender_of}
use Rattle.relay_delivery.specs.Ranks.{AreKeysSoFar}
use Rattle.relay_delivery.specs.WrittenPaths.{paths_of}
use Rattle.relay_delivery.proofs.recipient_order.add_keys.Given as goal

abbrev pub invariant-loop-index : goal.invariant-loop-index
invariant-loop-index l = record {
  keys : AreKeysSoFar (moved_key l.route_places) (λ r. IsTrue (is_address r.address.now)) l.recipients l.keys.items l.index;
  left : l.rest ≡ paths_of (drop l.index (take l.end (map sender_of l.recipients)));
  room : vec_capacity l.keys ≡ vec_capacity l.fn.keys;
}
