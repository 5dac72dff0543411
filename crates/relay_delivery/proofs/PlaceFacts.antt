-- What goes out is the same once senders, routes and recipients have their places in order.
use Rattle.std.proofs.Common.{◌≡◌, ℕ, ◌<◌, List, length, get_or, map, Some, sym, ap, subst, ◌∙◌, arith}
use Rattle.std.specs.Prelude.{◌↔◌, All, AllPairs, Contains, slice_get, option_map}
use Rattle.std.proofs.lemmas.List.{length-map, get_or-map, get_or_default}
use Rattle.std.proofs.lemmas.List.Elements.{All-map, All-contains, Contains-get_or}
use Rattle.std.proofs.lemmas.Option.{slice_get-map, slice_get-get_or, slice_get_within, same_Some, get_or_from_slice_get}
use Rattle.relay_text.specs.AddressParts.{AddressParts}
use Rattle.relay_routes.specs.declared.route.Route.{Route}
use Rattle.relay_delivery.specs.declared.routed.Routed.{Routed}
use Rattle.relay_delivery.specs.declared.delivery.Delivery.{Delivery}
use Rattle.relay_delivery.specs.Groups.{Sender}
use Rattle.relay_delivery.specs.Placings.{AreInRange, IsPlacedBy, IsInOrder, delivery_below}
use Rattle.relay_delivery.specs.Orders.{HaveMoved, AreSendersInOrder, AreRoutesInOrder, AreRecipientsInOrder, RoutedParts, routed_parts, moved_to, delivery_at}
use Rattle.relay_delivery.proofs.PickFacts.{element}

within : {X : Type 0} (xs : List X) (k : ℕ) (x : X) → get_or xs k x ≡ x → k < length xs → slice_get xs k ≡ Some x
within xs k x e inside = slice_get-get_or xs k x inside ∙ ap (λ y. Some y) e

pub place_within : {X : Type 0} (old new : List X) (place_of : List ℕ) → HaveMoved old new place_of → (k : ℕ) → k < length old → get_or place_of k 0 < length new
place_within old new place_of h k inside =
    let x = element old k inside in
    slice_get_within new (get_or place_of k 0) x.0 (h.moved k inside ∙ within old k x.0 x.1 inside)

pub places_within : (old new : List Routed) (places : List ℕ) → AreRecipientsInOrder old new places → All (λ p. p < length new) places
places_within old new places t = λ k d inside.
    let long : length places ≡ length (map routed_parts old) = t.moved.long in
    let below = place_within (map routed_parts old) (map routed_parts new) places t.moved k (omega (arith, long, inside)) in
    omega (arith, below, length-map new routed_parts, get_or_default places k d 0 inside)

contains_map : {X Y : Type 0} (f : X → Y) (xs : List X) (x : X) → Contains xs x → Contains (map f xs) (f x)
contains_map f xs x has = (has.0, (let inside = has.1 in omega (arith, length-map xs f, inside)), get_or-map f xs has.0 x (f x) has.1 ∙ ap f has.2)

from_map : {X Y : Type 0} (f : X → Y) (xs : List X) (y : Y) → Contains (map f xs) y → (x : X) × Contains xs x × (f x ≡ y)
from_map f xs y has =
    let inside : has.0 < length xs = (let before = has.1 in omega (arith, length-map xs f, before)) in
    let x = element xs has.0 inside in
    (x.0, (has.0, inside, x.1), ap f (sym x.1) ∙ sym (get_or-map f xs has.0 x.0 y inside) ∙ has.2)

module _
    (senders new_senders : List Sender) (routes new_routes : List Route) (recipients new_recipients : List Routed) (deliveries new_deliveries : List Delivery) (sender_places route_places recipient_places : List ℕ)
    (s : AreSendersInOrder senders new_senders sender_places) (r : AreRoutesInOrder routes new_routes route_places) (t : AreRecipientsInOrder (map (moved_to route_places) recipients) new_recipients recipient_places)
    (same : (x : Delivery) → Contains new_deliveries x ↔ Contains (map (delivery_at sender_places recipient_places) deliveries) x) (range : AreInRange senders routes recipients deliveries) where
  abbrev moved : List Routed
  moved = map (moved_to route_places) recipients

  -- the old delivery of a new one
  old_delivery : (x : Delivery) → Contains new_deliveries x → (y : Delivery) × Contains deliveries y × (delivery_at sender_places recipient_places y ≡ x)
  old_delivery x has = from_map (delivery_at sender_places recipient_places) deliveries x ((same x).0 has)

  in_range : (y : Delivery) → Contains deliveries y → (y.sender < length senders) × (y.recipient < length recipients)
  in_range y has = All-contains (λ (z : Delivery). (z.sender < length senders) × (z.recipient < length recipients)) deliveries y range.to_both has

  new_sender : (k : ℕ) → k < length senders → get_or sender_places k 0 < length new_senders
  new_sender k inside = place_within senders new_senders sender_places s.moved k inside

  new_recipient : (k : ℕ) → k < length recipients → get_or recipient_places k 0 < length new_recipients
  new_recipient k inside =
      let many : length (map routed_parts (map (moved_to route_places) recipients)) ≡ length recipients = length-map (map (moved_to route_places) recipients) routed_parts ∙ length-map recipients (moved_to route_places) in
      let below = place_within (map routed_parts (map (moved_to route_places) recipients)) (map routed_parts new_recipients) recipient_places t.moved k (omega (arith, many, inside)) in
      omega (arith, below, length-map new_recipients routed_parts)

  routes_within : All (λ q. q.route < length new_routes) new_recipients
  routes_within =
      t.routes (length new_routes)
      (All-map (λ q. q.route < length new_routes) (moved_to route_places) recipients (λ k d inside. place_within routes new_routes route_places r.moved (get_or recipients k d).route (range.to_routes k d inside)))

  delivery_within : (x : Delivery) → Contains new_deliveries x → (x.sender < length new_senders) × (x.recipient < length new_recipients)
  delivery_within x has =
      let old = old_delivery x has in
      let y = old.0 in
      let inside = in_range y old.1 in
      (subst (λ (z : Delivery). z.sender < length new_senders) old.2 (new_sender y.sender inside.0), subst (λ (z : Delivery). z.recipient < length new_recipients) old.2 (new_recipient y.recipient inside.1))

  pub in_order : AllPairs delivery_below new_deliveries → IsInOrder new_senders new_routes new_recipients new_deliveries
  in_order ascending = record {
    range = record { to_routes = routes_within; to_both = λ k d inside. delivery_within (get_or new_deliveries k d) (Contains-get_or new_deliveries k d inside) };
    senders_ascending = s.ascending;
    routes_ascending = r.ascending;
    recipients_ascending = t.ascending;
    deliveries_ascending = ascending;
  }

  -- a recipient, and what stands at its place
  twin : (k : ℕ) (old new : Routed) → slice_get recipients k ≡ Some old → slice_get new_recipients (get_or recipient_places k 0) ≡ Some new → routed_parts new ≡ routed_parts (moved_to route_places old)
  twin k old new is_old is_new =
      let inside : k < length recipients = slice_get_within recipients k old is_old in
      let many : length (map routed_parts (map (moved_to route_places) recipients)) ≡ length recipients = length-map (map (moved_to route_places) recipients) routed_parts ∙ length-map recipients (moved_to route_places) in
      same_Some (routed_parts new) (routed_parts (moved_to route_places old))
      (sym (slice_get-map routed_parts new_recipients (get_or recipient_places k 0) ∙ ap (option_map routed_parts) is_new)
      ∙ t.moved.moved k (omega (arith, many, inside))
      ∙ slice_get-map routed_parts (map (moved_to route_places) recipients) k
      ∙ ap (option_map routed_parts) (slice_get-map (moved_to route_places) recipients k ∙ ap (option_map (moved_to route_places)) is_old))

  route_in : (k : ℕ) (old : Routed) → slice_get recipients k ≡ Some old → old.route < length routes
  route_in k old is = All-contains (λ (q : Routed). q.route < length routes) recipients old range.to_routes (k, slice_get_within recipients k old is, get_or_from_slice_get recipients k old old is)

  from_new : (sender : Sender) (route : Route) (a : AddressParts) → IsPlacedBy new_senders new_routes new_recipients new_deliveries sender route a → IsPlacedBy senders routes recipients deliveries sender route a
  from_new sender route a p =
      let old = old_delivery p.delivery p.in_deliveries in
      let y = old.0 in
      let inside = in_range y old.1 in
      let q = element recipients y.recipient inside.1 in
      let is_q : slice_get recipients y.recipient ≡ Some q.0 = within recipients y.recipient q.0 q.1 inside.1 in
      let parts = twin y.recipient q.0 p.recipient is_q (ap (λ (z : Delivery). slice_get new_recipients z.recipient) old.2 ∙ p.recipient_is) in
      record {
        delivery = y;
        in_deliveries = old.1;
        sender_is = sym (s.moved.moved y.sender inside.0) ∙ ap (λ (z : Delivery). slice_get new_senders z.sender) old.2 ∙ p.sender_is;
        recipient = q.0;
        recipient_is = is_q;
        route_is = sym (r.moved.moved q.0.route (route_in y.recipient q.0 is_q)) ∙ ap (λ (h : RoutedParts). slice_get new_routes h.route) (sym parts) ∙ p.route_is;
        address_is = ap (λ (h : RoutedParts). h.address) (sym parts) ∙ p.address_is;
      }

  to_new : (sender : Sender) (route : Route) (a : AddressParts) → IsPlacedBy senders routes recipients deliveries sender route a → IsPlacedBy new_senders new_routes new_recipients new_deliveries sender route a
  to_new sender route a p =
      let y = p.delivery in
      let inside = slice_get_within recipients y.recipient p.recipient p.recipient_is in
      let q = element new_recipients (get_or recipient_places y.recipient 0) (new_recipient y.recipient inside) in
      let is_q : slice_get new_recipients (get_or recipient_places y.recipient 0) ≡ Some q.0 = within new_recipients (get_or recipient_places y.recipient 0) q.0 q.1 (new_recipient y.recipient inside) in
      let parts = twin y.recipient p.recipient q.0 p.recipient_is is_q in
      record {
        delivery = delivery_at sender_places recipient_places y;
        in_deliveries = (same (delivery_at sender_places recipient_places y)).1 (contains_map (delivery_at sender_places recipient_places) deliveries y p.in_deliveries);
        sender_is = s.moved.moved y.sender (slice_get_within senders y.sender sender p.sender_is) ∙ p.sender_is;
        recipient = q.0;
        recipient_is = is_q;
        route_is = ap (λ (h : RoutedParts). slice_get new_routes h.route) parts ∙ r.moved.moved p.recipient.route (route_in y.recipient p.recipient p.recipient_is) ∙ p.route_is;
        address_is = ap (λ (h : RoutedParts). h.address) parts ∙ p.address_is;
      }

  pub placed : (sender : Sender) (route : Route) (a : AddressParts) → IsPlacedBy new_senders new_routes new_recipients new_deliveries sender route a ↔ IsPlacedBy senders routes recipients deliveries sender route a
  placed sender route a = (from_new sender route a, to_new sender route a)
