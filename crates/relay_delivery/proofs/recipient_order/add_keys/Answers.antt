use Rattle.std.proofs.Common.{◌≡◌, ◌+◌, ◌<◌, ◌^◌, ◌∙◌, length, get_or, map, take, drop, sym, ap, subst, arith}
use Rattle.std.specs.Prelude.{IsTrue}
use Rattle.relay_text.specs.Addresses.{is_address}
use Rattle.relay_delivery.specs.declared.routed.Routed.{Routed}
use Rattle.relay_delivery.specs.Ranks.{key_parts, AreKeysSoFar}
use Rattle.relay_delivery.specs.Orders.{moved_key, sender_of}
use Rattle.relay_delivery.proofs.KeyFacts.{parts_are, so_far_more}
use Rattle.relay_delivery.proofs.PathFacts.{paths_begin, paths_behind}
use Rattle.relay_delivery.proofs.ShareFacts.{sender_here}
use Rattle.relay_delivery.proofs.recipient_order.add_keys.Goals as goal

pub split_path-requires : goal.split_path-requires
split_path-requires c =
    let given = c.args.recipients.now in
    let end = c.args.end in
    let i = c.loop-index.index in
    let r = c.index-recipients-index.result in
    let here = sender_here given end i r c.loop-index-test.true c.requires.range c.index-recipients-index.is in
    paths_begin (take end (map sender_of given)) i (sender_of r) here.0 here.1 c.loop-index.rest.now c.loop-index.invariant.left

pub loop-index-preserved : goal.loop-index-preserved
loop-index-preserved c =
    let given = c.args.recipients.now in
    let end = c.args.end in
    let keys = c.loop-index.keys.items in
    let i = c.loop-index.index in
    let k = c.new.result in
    let r = c.index-recipients-index.result in
    let before : i < end = c.loop-index-test.true in
    let here = sender_here given end i r before c.requires.range c.index-recipients-index.is in
    let text = c.split_path.result.0.now in
    let inside : i < length given = omega (arith, before, c.requires.range) in
    let places = c.args.route_places.now in
    let parts : key_parts k ≡ moved_key places r =
    parts_are k (get_or places r.route 0) text c.new.ensures.group c.new.ensures.text ∙ sym (ap (λ path. record { group = get_or places r.route 0; text = drop 1 path }) c.split_path.ensures.path) in
    let small : i < 2 ^ 32 = omega (arith, before, c.requires.few) in
    let number : k.number ≡ i = c.new.ensures.number in
    record {
      keys = subst (λ ks. AreKeysSoFar (moved_key c.args.route_places.now) (λ (r : Routed). IsTrue (is_address r.address.now)) given ks (i + 1)) (sym c.push_reserved.ensures.items)
          (so_far_more (moved_key c.args.route_places.now) (λ (r : Routed). IsTrue (is_address r.address.now)) given keys i k r c.loop-index.invariant.keys inside c.index-recipients-index.is parts number small c.split_path.ensures.valid);
      left = paths_behind (take end (map sender_of given)) i (sender_of r) here.0 here.1 c.loop-index.rest.now c.split_path.result.1.now c.loop-index.invariant.left c.split_path.ensures.behind;
      room = c.push_reserved.ensures.capacity ∙ c.loop-index.invariant.room;
    }
