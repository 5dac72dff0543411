-- What transactions of keys and numbers stand for.
use Rattle.std.specs.Prelude.{ℕ, ◌<◌, List, [], map, length, None, slice_index_or, All}
use Rattle.relay_text.specs.AddressParts.{AddressParts}
use Rattle.relay_routes.specs.declared.route.Route.{Route}
use Rattle.relay_routes.specs.declared.transport.Transport.TheVariants.{Smtp}
use Rattle.relay_rings.specs.declared.batching.Transaction.{Transaction}
use Rattle.relay_wire.specs.declared.plan.Planned.{Planned}
use Rattle.relay_delivery.specs.declared.group_numbers.GroupNumbers.{GroupNumbers}
use Rattle.relay_delivery.specs.declared.placing.Placing.{Placing}
use Rattle.relay_delivery.specs.declared.routed.Routed.{Routed}
use Rattle.relay_delivery.specs.Groups.{Group, Sender, planned}
use Rattle.relay_delivery.specs.Keyed.{numbers_at}
use Rattle.relay_delivery.specs.Placings.{senders_of, routes_of, IsInOrder}

abbrev pub sender_at : List Sender → ℕ → Sender
sender_at senders n = slice_index_or senders n None

-- what stands for a number past the end of its list
abbrev pub no_route : Route
no_route = record { transport = Smtp; nexthop = []; hosts = [] }

abbrev pub no_address : AddressParts
no_address = record { local = []; domain = [] }

abbrev pub route_at : List Route → ℕ → Route
route_at routes n = slice_index_or routes n no_route

abbrev pub address_at : List Routed → ℕ → AddressParts
address_at recipients n = slice_index_or (map (λ (r : Routed). r.address.now) recipients) n no_address

-- a group by its numbers, with the addresses of these recipients
abbrev pub group_of : List Sender → List Route → List Routed → GroupNumbers → List ℕ → Group
group_of senders routes recipients g items = record { sender = sender_at senders g.sender; route = route_at routes g.route; to = map (address_at recipients) items }

-- the transaction of a group to these addresses
abbrev pub planned_to : List Sender → List Route → GroupNumbers → List AddressParts → Planned
planned_to senders routes g to = planned (record { sender = sender_at senders g.sender; route = route_at routes g.route; to = to }) to

-- the transaction of a group and some of its recipients
abbrev pub planned_of : List Sender → List Route → List Routed → GroupNumbers → List ℕ → Planned
planned_of senders routes recipients g items = planned (group_of senders routes recipients g items) (map (address_at recipients) items)

-- all is in range and in the order of a plan
abbrev pub IsOrdered : Placing → Type 0
IsOrdered p = IsInOrder (senders_of p.senders.items) (routes_of p.routes.items) p.recipients.items p.deliveries.items

-- the transaction of a cut
abbrev pub transaction_of : Placing → List GroupNumbers → Transaction → Planned
transaction_of p groups cut = planned_of (senders_of p.senders.items) (routes_of p.routes.items) p.recipients.items (numbers_at groups cut.key) cut.items

-- a cut's group, the group's sender and route, and the cut's recipients are in their lists
pub record IsWithin (p : Placing) (groups : List GroupNumbers) (cut : Transaction) : Type 0 where
  pub key : cut.key < length groups
  pub sender : (numbers_at groups cut.key).sender < length p.senders.items
  pub route : (numbers_at groups cut.key).route < length p.routes.items
  pub recipients : All (λ n. n < length p.recipients.items) cut.items
