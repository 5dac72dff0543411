-- What the numbers that are outgoing place is what a job places.
use Rattle.std.proofs.Common.{◌≡◌, ℕ, ◌<◌, List, length, get_or, refl, sym, ap, subst, ◌∙◌}
use Rattle.std.specs.Prelude.{Contains, ◌↔◌, slice_get, Some, Option, Result, Ok}
use Rattle.std.proofs.lemmas.List.Elements.{Contains-get_or, All-contains}
use Rattle.std.proofs.lemmas.Option.{same_Some, slice_get-get_or, slice_get_within}
use Rattle.relay_text.specs.AddressParts.{AddressParts}
use Rattle.relay_routes.specs.declared.route.Route.{Route}
use Rattle.relay_routes.specs.declared.unrouted.Unrouted.{Unrouted}
use Rattle.relay_tables.specs.declared.node.Node.{Node}
use Rattle.relay_tables.specs.declared.node.Node.TheVariants as nodes
use Rattle.relay_tables.specs.GraphParts.{GraphParts}
use Rattle.relay_tables.specs.Senders.{Sender}
use Rattle.relay_pairs.specs.declared.reached.Reached.{Reached}
use Rattle.relay_delivery.specs.declared.routed.Routed.{Routed}
use Rattle.relay_delivery.specs.declared.delivery.Delivery.{Delivery}
use Rattle.relay_delivery.specs.Placings.{AreInRange, IsPlacedBy}
use Rattle.relay_job.specs.declared.job.Job.{Job}
use Rattle.relay_planning.specs.declared.outgoing.Known.{Known}
use Rattle.relay_planning.specs.declared.outgoing.Known.TheVariants.{Unseen, Unrouted as NoRoute, Recipient}
use Rattle.relay_planning.specs.Delivery.{IsPlaced}
use Rattle.relay_planning.specs.Reaching.{AreReachedPairs}
use Rattle.relay_planning.specs.Routes.{IsRecipient, IsWhatIsKnown, AreKnown, AreOutgoing}

same_address : (x y : AddressParts) → Some x ≡ Some y → x ≡ y
same_address x y e = cc

abbrev answer_of : Route → Option (Result Route Unrouted)
answer_of route = Some (Ok route)

same_route : (x y : Route) → answer_of x ≡ answer_of y → x ≡ y
same_route x y e = cc

module _ (job : Job) (g : GraphParts) (pairs : List Reached) (reached : AreReachedPairs job g pairs) (routes : List Route) (recipients : List Routed) (known : List Known) (lines : List (List ℕ)) (deliveries : List Delivery) (are : AreKnown job g routes recipients known lines) (outgoing : AreOutgoing job g pairs known deliveries) where
  -- a pair's node is there
  node_at : (p : Reached) → Contains pairs p → slice_get g.nodes p.node ≡ Some (get_or g.nodes p.node (nodes.Alias 0))
  node_at p c = slice_get-get_or g.nodes p.node (nodes.Alias 0) (All-contains (λ x. (x.sender < length g.senders) × (x.node < length g.nodes)) pairs p reached.in_graph c).1

  -- the pair of a delivery, whose node is the delivery's recipient
  record HasJobFile (delivery : Delivery) : Type 0 where
    pair : Reached
    in_pairs : Contains pairs pair
    under : pair.sender ≡ delivery.sender
    node : Node
    node_is : slice_get g.nodes pair.node ≡ Some node
    recipient : Routed
    at : slice_get recipients delivery.recipient ≡ Some recipient
    is : IsRecipient job routes node recipient

  job_file_of : (delivery : Delivery) → Contains deliveries delivery → HasJobFile delivery
  job_file_of delivery c =
      let h = (outgoing.deliveries_are delivery).0 c in
      let p = h.0 in
      let is = node_at p h.1 in
      let what = are.each p.node (Recipient delivery.recipient) (get_or g.nodes p.node (nodes.Alias 0)) h.2.goes is in
      record { pair = p; in_pairs = h.1; under = h.2.under; node = get_or g.nodes p.node (nodes.Alias 0); node_is = is; recipient = what.0; at = what.1; is = what.2 }

  -- ---- all numbers are in range
  delivery_within : (delivery : Delivery) → Contains deliveries delivery → (delivery.sender < length g.senders) × (delivery.recipient < length recipients)
  delivery_within delivery c =
      let h = job_file_of delivery c in
      let inside = (All-contains (λ (x : Reached). (x.sender < length g.senders) × (x.node < length g.nodes)) pairs h.pair reached.in_graph h.in_pairs).0 in
      (subst (λ n. n < length g.senders) h.under inside, slice_get_within recipients delivery.recipient h.recipient h.at)

  pub in_range : AreInRange g.senders routes recipients deliveries
  in_range = record {
    to_routes = are.in_routes;
    to_both = λ k d below. delivery_within (get_or deliveries k d) (Contains-get_or deliveries k d below);
  }

  -- ---- what is placed
  module _ (sender : Sender) (route : Route) (a : AddressParts) where
    by_known : (placed : IsPlaced job sender route a) (p : Reached) (k : Known) → Contains pairs p → slice_get g.senders p.sender ≡ Some sender → slice_get known p.node ≡ Some k → (k ≡ Unseen → ⊥)
        → IsWhatIsKnown job g routes recipients placed.node k → IsPlacedBy g.senders routes recipients deliveries sender route a
    by_known placed p Unseen c from at seen what = absurd (seen refl)
    by_known placed p NoRoute c from at seen what = absurd (what route placed.routed)
    by_known placed p (Recipient n) c from at seen what =
        let r = what.0 in
        let is = what.2 in
        let goes : is.route ≡ route = same_route is.route route (sym is.routed ∙ placed.routed) in
        record {
          delivery = record { sender = p.sender; recipient = n };
          in_deliveries = (outgoing.deliveries_are (record { sender = p.sender; recipient = n })).1 (p, c, record { under = refl; goes = at });
          sender_is = from;
          recipient = r;
          recipient_is = what.1;
          route_is = is.route_is ∙ ap (λ x. Some x) goes;
          address_is = same_address r.address.now a (sym is.address_is ∙ placed.address);
        }

    by_numbers : IsPlaced job sender route a → IsPlacedBy g.senders routes recipients deliveries sender route a
    by_numbers placed =
        let n = reached.numbered (record { sender = sender; node = placed.node }) placed.reached in
        let s = outgoing.seen n.0 n.1 in
        by_known placed n.0 s.0 n.1 n.2 s.1 s.2 (are.each n.0.node s.0 placed.node s.1 n.3)

    from_numbers : IsPlacedBy g.senders routes recipients deliveries sender route a → IsPlaced job sender route a
    from_numbers by =
        let h = job_file_of by.delivery by.in_deliveries in
        let same : h.recipient ≡ by.recipient = same_Some h.recipient by.recipient (sym h.at ∙ by.recipient_is) in
        let goes : h.is.route ≡ route = same_Some h.is.route route (sym h.is.route_is ∙ ap (λ (r : Routed). slice_get routes r.route) same ∙ by.route_is) in
        record {
          node = h.node;
          reached = reached.reached h.pair sender h.node h.in_pairs (ap (slice_get g.senders) h.under ∙ by.sender_is) h.node_is;
          address = h.is.address_is ∙ ap (λ (r : Routed). Some r.address.now) same ∙ ap (λ x. Some x) by.address_is;
          routed = h.is.routed ∙ ap answer_of goes;
        }

    pub placed_by_numbers : IsPlaced job sender route a ↔ IsPlacedBy g.senders routes recipients deliveries sender route a
    placed_by_numbers = (by_numbers, from_numbers)
