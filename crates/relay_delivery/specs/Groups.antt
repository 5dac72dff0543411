-- Groups of addresses that share a sender and a route, and the transactions that they are cut into (RFC 5321 section 4.5.3.1.8).
use Rattle.std.specs.Prelude.{◌≡◌, ◌≢◌, ℕ, ◌≤◌, List, [], map, flat_map, length, Contains, ◌↔◌, Option, Some}
use Rattle.std.specs.declared.cmp.Ordering.{Ordering}
use Rattle.std.specs.Ordering.{ordering_then}
use Rattle.relay_text.specs.AddressParts.{AddressParts}
use Rattle.relay_text.specs.Addresses.{path_text_of}
use Rattle.relay_text.specs.TextSets.{text_cmp, IsAscendingBy}
use Rattle.relay_routes.specs.declared.route.Route.{Route}
use Rattle.relay_routes.specs.declared.transport.Transport.{Transport}
use Rattle.relay_routes.specs.declared.transport.Transport.TheVariants.{Smtp, Relay, Lmtp}
use Rattle.relay_routes.specs.Transports.{transport_name}
use Rattle.relay_rings.specs.Batches.{parts_of}
use Rattle.relay_rings.specs.Sound.{IsSound}
use Rattle.relay_wire.specs.declared.plan.Planned.{Planned}
use Rattle.relay_delivery.specs.declared.limits.BatchLimits.{BatchLimits}

abbrev pub limit_at : BatchLimits → Transport → ℕ
limit_at limits Smtp = limits.smtp
limit_at limits Relay = limits.relay
limit_at limits Lmtp = limits.lmtp

-- no address is the null sender
abbrev pub Sender : Type 0
Sender = Option AddressParts

-- The addresses that share a sender, a transport and a nexthop, and so the hosts.
pub record Group : Type 0 where
  pub sender : Sender
  pub route : Route
  pub to : List AddressParts

-- Senders stand by the bytes of their paths, routes by the transport's name and the nexthop, recipients by the bytes of their paths.
abbrev pub sender_cmp : Sender → Sender → Ordering
sender_cmp s t = text_cmp (path_text_of s) (path_text_of t)

abbrev pub route_cmp : Route → Route → Ordering
route_cmp r q = ordering_then (text_cmp (transport_name r.transport) (transport_name q.transport)) (text_cmp r.nexthop q.nexthop)

abbrev pub group_cmp : Group → Group → Ordering
group_cmp g h = ordering_then (sender_cmp g.sender h.sender) (route_cmp g.route h.route)

abbrev pub path_cmp : AddressParts → AddressParts → Ordering
path_cmp a b = text_cmp (path_text_of (Some a)) (path_text_of (Some b))

-- What a transaction delivers by: its sender, transport and nexthop.
pub record DeliveryKey : Type 0 where
  pub sender : Sender
  pub transport : Transport
  pub nexthop : List ℕ

abbrev pub key_of : Planned → DeliveryKey
key_of t = record { sender = t.from; transport = t.transport; nexthop = t.nexthop }

-- one of these groups has the address, under this sender and route
pub record IsGrouped (groups : List Group) (sender : Sender) (route : Route) (a : AddressParts) : Type 0 where
  pub group : Group
  pub in_groups : Contains groups group
  pub sender_is : group.sender ≡ sender
  pub route_is : group.route ≡ route
  pub in_group : Contains group.to a

-- a group's transaction with some of its addresses
abbrev pub planned : Group → List AddressParts → Planned
planned g part = record { from = g.sender; transport = g.route.transport; nexthop = g.route.nexthop; hosts = g.route.hosts; to = part }

-- `limit`: how many recipients a transaction of a transport takes; `IsPlaced`: which address goes out under which sender and route.
module _ (limit : Transport → ℕ) (IsPlaced : Sender → Route → AddressParts → Type 0) where
  -- The groups, in order: each has an address, and together they have what is placed and nothing else.
  pub record IsGrouping (groups : List Group) : Type 0 where
    pub ascending : IsAscendingBy group_cmp groups
    pub nonempty : (g : Group) → Contains groups g → g.to ≢ []
    pub recipients_ascending : (g : Group) → Contains groups g → IsAscendingBy path_cmp g.to
    pub members : (sender : Sender) (route : Route) (a : AddressParts) → IsPlaced sender route a ↔ IsGrouped groups sender route a

  -- A group is cut into consecutive batches within its transport's limit, the last perhaps shorter.
  abbrev pub batches_of : Group → List Planned
  batches_of g = map (planned g) (parts_of (limit g.route.transport) g.to)

  -- The transactions: the batches of the groups in order.
  pub record AreTransactionsOf (transactions : List Planned) : Type 0 where
    pub groups : List Group
    pub grouping : IsGrouping groups
    pub batches : transactions ≡ flat_map batches_of groups

  -- an address that is placed under this sender, by this transport to this nexthop
  abbrev pub IsPlacedAt : DeliveryKey → AddressParts → Type 0
  IsPlacedAt key a = (route : Route) × IsPlaced key.sender route a × (route.transport ≡ key.transport) × (route.nexthop ≡ key.nexthop)

  -- Any list of transactions that delivers what is placed and nothing else, within the limits, in whatever order, however grouped or cut.
  abbrev pub IsSoundFor : List Planned → Type 0
  IsSoundFor ts = IsSound key_of (λ (t : Planned). t.to) (λ key. limit key.transport) IsPlacedAt ts

  -- no sound list of transactions is shorter
  abbrev pub IsFewest : List Planned → Type 0
  IsFewest ts = (other : List Planned) → IsSoundFor other → length ts ≤ length other
