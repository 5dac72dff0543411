use Rattle.std.proofs.Common.{◌≡◌, ◌∙◌, map, sym, subst}
use Rattle.std.specs.Prelude.{option_copied}
use Rattle.std.specs.declared.cmp.Ordering.TheVariants.{Less}
use Rattle.relay_delivery.specs.Groups.{sender_cmp}
use Rattle.relay_delivery.specs.Placings.{senders_of}
use Rattle.relay_delivery.specs.Ranks.{AreRanks}
use Rattle.relay_delivery.specs.Orders.{sender_key}
use Rattle.relay_delivery.proofs.PickFacts.{ArePicked, picked_of, picked_map, picks_ascend, have_moved}
use Rattle.relay_delivery.proofs.SenderFacts.{sender_key_cmp, one_sender}
use Rattle.relay_delivery.proofs.sender_order.SenderOrder.of.Goals as goal

pub returns : goal.returns
returns g c =
    let given = c.args.senders.now in
    let senders = senders_of given in
    let order = c.in_ok-order.field-0.order.items in
    let place_of = c.in_ok-order.field-0.place_of.items in
    let picks = c.in_ok-senders.senders.items in
    let numbers = c.as_slice.result.now in
    let ranks : AreRanks (map sender_key senders) order place_of = subst (λ ps. AreRanks ps order place_of) c.in_ok-keys.ensures.keys.parts_are c.in_ok-order.ensures in
    let is_order : numbers ≡ order = c.as_slice.ensures.value ∙ (cc) in
    let by_number : ArePicked senders numbers (senders_of picks) = picked_map option_copied given numbers picks (picked_of given numbers picks c.in_ok-senders.ensures) in
    let picked : ArePicked senders order (senders_of picks) = subst (λ ns. ArePicked senders ns (senders_of picks)) is_order by_number in
    record {
      ascending = picks_ascend sender_key senders order place_of (senders_of picks) ranks picked (λ s t. sender_cmp s t ≡ Less) (λ s t e. sym (sender_key_cmp s t) ∙ e);
      moved = have_moved sender_key senders order place_of (senders_of picks) ranks picked (one_sender c.one_spelling.ensures.one_address senders c.in_ok-keys.ensures.valid);
    }
