use Rattle.std.proofs.Common.{◌≡◌, ◌<◌, ◌∙◌, List, length, map, sym, ap, subst, arith}
use Rattle.std.specs.Prelude.{All}
use Rattle.std.proofs.lemmas.List.{with_items_is, length-map}
use Rattle.relay_delivery.specs.declared.routed.Routed.{Routed}
use Rattle.relay_delivery.specs.Ranks.{AreRanks}
use Rattle.relay_delivery.specs.Orders.{moved_key, moved_to, AreRecipientsInOrder}
use Rattle.relay_delivery.proofs.PickFacts.{ArePicked, picked_of}
use Rattle.relay_delivery.proofs.RecipientFacts.{picked_routes, recipients_in_order}
use Rattle.relay_delivery.proofs.recipient_order.RecipientOrder.of.Goals as goal

pub put_routes-requires-clause-routes : goal.put_routes-requires-clause-routes
put_routes-requires-clause-routes g c κs within =
    let places = c.args.route_places.now in
    let recipients = c.args.recipients.now in
    let order = c.in_ok-order.field-0.order.items in
    let place_of = c.in_ok-order.field-0.place_of.items in
    let picks = c.in_ok-recipients.recipients.items in
    let numbers = c.as_slice.result.now in
    let ranks : AreRanks (map (moved_key places) recipients) order place_of = c.in_ok-order.ensures.ranks in
    let is_order : numbers ≡ order = c.as_slice.ensures.value ∙ (cc) in
    let picked : ArePicked recipients order picks = subst (λ ns. ArePicked recipients ns picks) is_order (picked_of recipients numbers picks c.in_ok-recipients.ensures) in
    subst (All (λ (r : Routed). r.route < length places)) (sym c.as_mut_slice.ensures.value) (picked_routes places recipients order place_of picks ranks picked (length places) c.requires)

pub returns : goal.returns
returns g c =
    let places = c.args.route_places.now in
    let recipients = c.args.recipients.now in
    let order = c.in_ok-order.field-0.order.items in
    let place_of = c.in_ok-order.field-0.place_of.items in
    let vec = c.in_ok-recipients.recipients in
    let picks = vec.items in
    let numbers = c.as_slice.result.now in
    let ranks : AreRanks (map (moved_key places) recipients) order place_of = c.in_ok-order.ensures.ranks in
    let is_order : numbers ≡ order = c.as_slice.ensures.value ∙ (cc) in
    let picked : ArePicked recipients order picks = subst (λ ns. ArePicked recipients ns picks) is_order (picked_of recipients numbers picks c.in_ok-recipients.ensures) in
    let put = c.put_routes.new.recipients in
    let made : put ≡ map (moved_to places) picks = c.put_routes.ensures ∙ ap (map (moved_to places)) c.as_mut_slice.ensures.value in
    let read = with_items_is vec put (omega (arith, ap length made, length-map picks (moved_to places), vec.ok.0)) in
    subst (λ (new : List Routed). AreRecipientsInOrder (map (moved_to places) recipients) new place_of) (sym (read ∙ made))
    (recipients_in_order places recipients order place_of picks ranks picked c.one_spelling.ensures.one_address c.in_ok-order.ensures.valid)
