use Rattle.std.proofs.Common.{◌<◌, ◌∙◌, List, ℕ, length, map, sym, subst}
use Rattle.std.specs.Prelude.{◌↔◌, All, Contains}
use Rattle.relay_delivery.specs.declared.delivery.Delivery.{Delivery}
use Rattle.relay_delivery.specs.Placings.{senders_of, routes_of}
use Rattle.relay_delivery.specs.Orders.{AreRecipientsInOrder, moved_to, delivery_at}
use Rattle.relay_delivery.proofs.PlaceFacts.{places_within, in_order, placed}
use Rattle.relay_delivery.proofs.placing.Placing.of.Goals as goal

pub deliveries_in_order-requires-clause-places : goal.deliveries_in_order-requires-clause-places
deliveries_in_order-requires-clause-places g c κs within =
    let recipients = c.in_ok-recipient_order.recipient_order.recipients.items in
    let places = c.in_ok-recipient_order.recipient_order.place_of.items in
    let within : All (λ p. p < length recipients) places = places_within (map (moved_to c.as_slice-route_places.result.now) c.args.recipients.now) recipients places c.in_ok-recipient_order.ensures in
    subst (All (λ (p : ℕ). p < c.len.result)) (sym c.as_slice-2.ensures.value) (subst (λ (n : ℕ). All (λ (p : ℕ). p < n) places) (sym (c.len.ensures ∙ c.in_ok-recipient_order.recipient_order.recipients.ok.0)) within)

pub returns-clause-order : goal.returns-clause-order
returns-clause-order g c =
    let senders = senders_of c.args.senders.now in
    let new_senders = senders_of c.in_ok-sender_order.sender_order.senders.items in
    let sender_places = c.in_ok-sender_order.sender_order.place_of.items in
    let routes = c.args.routes.now in
    let new_routes = routes_of c.in_ok-route_order.route_order.routes.items in
    let route_places = c.in_ok-route_order.route_order.place_of.items in
    let recipients = c.args.recipients.now in
    let new_recipients = c.in_ok-recipient_order.recipient_order.recipients.items in
    let recipient_places = c.in_ok-recipient_order.recipient_order.place_of.items in
    let deliveries = c.args.deliveries.items in
    let new_deliveries = c.in_ok-deliveries.deliveries.items in
    let IsOrdered : List ℕ → Type 0 = λ places. AreRecipientsInOrder (map (moved_to places) recipients) new_recipients recipient_places in
    let ordered : IsOrdered route_places = subst IsOrdered c.as_slice-route_places.ensures.value c.in_ok-recipient_order.ensures in
    let IsSame : List ℕ → List ℕ → Type 0 = λ ss rs. (x : Delivery) → Contains new_deliveries x ↔ Contains (map (delivery_at ss rs) deliveries) x in
    let same : IsSame sender_places recipient_places =
    subst (λ ss. IsSame ss recipient_places) c.as_slice.ensures.value (subst (λ rs. IsSame c.as_slice.result.now rs) c.as_slice-2.ensures.value c.in_ok-deliveries.ensures.same) in
    in_order senders new_senders routes new_routes recipients new_recipients deliveries new_deliveries sender_places route_places recipient_places c.in_ok-sender_order.ensures c.in_ok-route_order.ensures ordered same c.requires.range c.in_ok-deliveries.ensures.ascending

pub returns-clause-placed : goal.returns-clause-placed
returns-clause-placed g c =
    let senders = senders_of c.args.senders.now in
    let new_senders = senders_of c.in_ok-sender_order.sender_order.senders.items in
    let sender_places = c.in_ok-sender_order.sender_order.place_of.items in
    let routes = c.args.routes.now in
    let new_routes = routes_of c.in_ok-route_order.route_order.routes.items in
    let route_places = c.in_ok-route_order.route_order.place_of.items in
    let recipients = c.args.recipients.now in
    let new_recipients = c.in_ok-recipient_order.recipient_order.recipients.items in
    let recipient_places = c.in_ok-recipient_order.recipient_order.place_of.items in
    let deliveries = c.args.deliveries.items in
    let new_deliveries = c.in_ok-deliveries.deliveries.items in
    let IsOrdered : List ℕ → Type 0 = λ places. AreRecipientsInOrder (map (moved_to places) recipients) new_recipients recipient_places in
    let ordered : IsOrdered route_places = subst IsOrdered c.as_slice-route_places.ensures.value c.in_ok-recipient_order.ensures in
    let IsSame : List ℕ → List ℕ → Type 0 = λ ss rs. (x : Delivery) → Contains new_deliveries x ↔ Contains (map (delivery_at ss rs) deliveries) x in
    let same : IsSame sender_places recipient_places =
    subst (λ ss. IsSame ss recipient_places) c.as_slice.ensures.value (subst (λ rs. IsSame c.as_slice.result.now rs) c.as_slice-2.ensures.value c.in_ok-deliveries.ensures.same) in
    placed senders new_senders routes new_routes recipients new_recipients deliveries new_deliveries sender_places route_places recipient_places c.in_ok-sender_order.ensures c.in_ok-route_order.ensures ordered same c.requires.range
