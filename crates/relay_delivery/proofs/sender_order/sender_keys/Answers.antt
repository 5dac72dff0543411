use Rattle.std.proofs.Common.{◌≡◌, ◌+◌, ◌<◌, ◌^◌, ◌∙◌, length, get_or, sym, ap, subst, arith}
use Rattle.std.specs.Prelude.{option_copied}
use Rattle.std.proofs.lemmas.List.{length-map, get_or-map}
use Rattle.relay_delivery.specs.Placings.{senders_of, IsSender}
use Rattle.relay_delivery.specs.Ranks.{key_parts, AreKeysSoFar}
use Rattle.relay_delivery.specs.Orders.{sender_key}
use Rattle.relay_delivery.proofs.KeyFacts.{parts_are, so_far_more}
use Rattle.relay_delivery.proofs.PathFacts.{paths_begin, paths_behind}
use Rattle.relay_delivery.proofs.SenderFacts.{sender_key_of}
use Rattle.relay_delivery.proofs.sender_order.sender_keys.Goals as goal

pub split_path-requires : goal.split_path-requires
split_path-requires c =
    let given = c.args.senders.now in
    let senders = senders_of given in
    let i = c.loop-index.index in
    let x = option_copied c.index-senders-index.result in
    let before : i < length given = c.loop-index-test.true in
    let inside : i < length senders = omega (arith, before, length-map given option_copied) in
    let is : x ≡ get_or senders i x = ap option_copied c.index-senders-index.is ∙ sym (get_or-map option_copied given i c.index-senders-index.result x before) in
    paths_begin senders i x inside is c.loop-index.rest.now c.loop-index.invariant.left

pub loop-index-preserved : goal.loop-index-preserved
loop-index-preserved c =
    let given = c.args.senders.now in
    let senders = senders_of given in
    let keys = c.loop-index.keys.items in
    let i = c.loop-index.index in
    let k = c.new.result in
    let x = option_copied c.index-senders-index.result in
    let before : i < length given = c.loop-index-test.true in
    let inside : i < length senders = omega (arith, before, length-map given option_copied) in
    let is : x ≡ get_or senders i x = ap option_copied c.index-senders-index.is ∙ sym (get_or-map option_copied given i c.index-senders-index.result x before) in
    let text = c.split_path.result.0.now in
    let parts : key_parts k ≡ sender_key x = parts_are k 0 text c.new.ensures.group c.new.ensures.text ∙ sym (sender_key_of x text c.split_path.ensures.path) in
    let told = c.in-Ok.ensures in
    let told_is = c.in-Ok.is in
    let small : i < 2 ^ 32 = omega arith in
    let number : k.number ≡ i = c.new.ensures.number ∙ omega arith in
    record {
      keys = subst (λ ks. AreKeysSoFar sender_key IsSender senders ks (i + 1)) (sym c.push_reserved.ensures.items)
          (so_far_more sender_key IsSender senders keys i k x c.loop-index.invariant.keys inside is parts number small c.split_path.ensures.valid);
      left = paths_behind senders i x inside is c.loop-index.rest.now c.split_path.result.1.now c.loop-index.invariant.left c.split_path.ensures.behind;
      room = omega (arith, c.loop-index.invariant.room, before, c.push_reserved.ensures.len, c.push_reserved.ensures.capacity);
    }
