use Rattle.std.proofs.Common.{◌≡◌, ◌*◌, ◌≤◌, min, length, vec_capacity}
use Rattle.std.specs.Prelude.{IsTrue}
use Rattle.relay_text.specs.Addresses.{is_address}
use Rattle.relay_delivery.specs.Orders.{moved_key}
use Rattle.relay_delivery.specs.Ranks.{AreKeysSoFar}
use Rattle.relay_delivery.proofs.recipient_order.recipient_keys.Given as goal

abbrev pub invariant-loop-text : goal.invariant-loop-text
invariant-loop-text l = record {
  reached : l.start ≡ min (l.text-index * l.size) (length l.recipients);
  keys : AreKeysSoFar (moved_key l.route_places) (λ r. IsTrue (is_address r.address.now)) l.recipients l.keys.items l.start;
  room : length l.recipients ≤ vec_capacity l.keys;
}
