-- What goes out under which sender and route, by numbers.
use Rattle.std.specs.Prelude.{◌≡◌, ◌≢◌, ◌⊎◌, ◌<◌, List, length, map, All, AllPairs, Contains, slice_get, Option, Some, option_copied, IfSome, IsTrue}
use Rattle.std.specs.Borrow.{Bor}
use Rattle.std.specs.declared.cmp.Ordering.TheVariants.{Less}
use Rattle.relay_text.specs.AddressParts.{AddressParts}
use Rattle.relay_text.specs.Addresses.{is_address}
use Rattle.relay_text.specs.TextSets.{IsAscendingBy}
use Rattle.relay_routes.specs.declared.route.Route.{Route}
use Rattle.relay_delivery.specs.declared.routed.Routed.{Routed}
use Rattle.relay_delivery.specs.declared.delivery.Delivery.{Delivery}
use Rattle.relay_delivery.specs.Groups.{Sender, sender_cmp, route_cmp, path_cmp}

-- the senders behind references
abbrev pub senders_of : List (Option (Bor AddressParts)) → List Sender
senders_of senders = map option_copied senders

-- the routes behind references
abbrev pub routes_of : List (Bor Route) → List Route
routes_of routes = map (λ (r : Bor Route). r.now) routes

-- no address, or one that is within the limits
abbrev pub IsSender : Sender → Type 0
IsSender sender = IfSome sender (λ a. IsTrue (is_address a))

-- the numbers of routes, senders and recipients are in their lists
pub record AreInRange (senders : List Sender) (routes : List Route) (recipients : List Routed) (deliveries : List Delivery) : Type 0 where
  pub to_routes : All (λ r. r.route < length routes) recipients
  pub to_both : All (λ s. (s.sender < length senders) × (s.recipient < length recipients)) deliveries

-- no two routes have both transport and nexthop in common
abbrev pub AreRoutesApart : List Route → Type 0
AreRoutesApart routes = AllPairs (λ r q. (r.transport ≢ q.transport) ⊎ (r.nexthop ≢ q.nexthop)) routes

-- no two senders are equal, and no two routes have both transport and nexthop in common
pub record AreApart (senders : List Sender) (routes : List Route) : Type 0 where
  pub senders_apart : AllPairs (λ s t. s ≢ t) senders
  pub routes_apart : AreRoutesApart routes

-- an address goes out under a sender and a route: some delivery has the sender, and its recipient the route and the address
pub record IsPlacedBy (senders : List Sender) (routes : List Route) (recipients : List Routed) (deliveries : List Delivery) (sender : Sender) (route : Route) (a : AddressParts) : Type 0 where
  pub delivery : Delivery
  pub in_deliveries : Contains deliveries delivery
  pub sender_is : slice_get senders delivery.sender ≡ Some sender
  pub recipient : Routed
  pub recipient_is : slice_get recipients delivery.recipient ≡ Some recipient
  pub route_is : slice_get routes recipient.route ≡ Some route
  pub address_is : recipient.address.now ≡ a

-- recipients by their routes, and then by their paths
abbrev pub recipient_below : Routed → Routed → Type 0
recipient_below x y = (x.route < y.route) ⊎ ((x.route ≡ y.route) × (path_cmp x.address.now y.address.now ≡ Less))

abbrev pub delivery_below : Delivery → Delivery → Type 0
delivery_below x y = (x.sender < y.sender) ⊎ ((x.sender ≡ y.sender) × (x.recipient < y.recipient))

-- All is in range and in the order of a plan.
pub record IsInOrder (senders : List Sender) (routes : List Route) (recipients : List Routed) (deliveries : List Delivery) : Type 0 where
  pub range : AreInRange senders routes recipients deliveries
  pub senders_ascending : IsAscendingBy sender_cmp senders
  pub routes_ascending : IsAscendingBy route_cmp routes
  pub recipients_ascending : AllPairs recipient_below recipients
  pub deliveries_ascending : AllPairs delivery_below deliveries
