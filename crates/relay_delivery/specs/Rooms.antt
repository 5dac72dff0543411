-- The rooms of transactions' recipients.
use Rattle.std.specs.Prelude.{◌≡◌, ℕ, ◌<◌, ◌≤◌, List, [], map, length, slice_index_or, vec_capacity, IsTrue}
use Rattle.relay_rings.specs.declared.batching.Transaction.{Transaction}
use Rattle.relay_wire.specs.declared.plan.Planned.{Planned}
use Rattle.relay_delivery.specs.declared.group_numbers.GroupNumbers.{GroupNumbers}
use Rattle.relay_delivery.specs.declared.placing.Placing.{Placing}
use Rattle.relay_delivery.specs.declared.rooms.Room.{Room}
use Rattle.relay_delivery.specs.declared.routed.Routed.{Routed}
use Rattle.relay_delivery.specs.Cuts.{address_at, planned_to}
use Rattle.relay_delivery.specs.Keyed.{numbers_at}
use Rattle.relay_delivery.specs.Placings.{senders_of, routes_of}

-- the transaction of a room's group to whoever is in the room
abbrev pub planned_in : Placing → Room → Planned
planned_in p room = planned_to (senders_of p.senders.items) (routes_of p.routes.items) room.group room.to.items

-- the sender and the route of the room's group are in their lists
abbrev pub HasGroupIn : Placing → Room → Type 0
HasGroupIn p room = (room.group.sender < length p.senders.items) × (room.group.route < length p.routes.items)

-- a cut's room with nobody in it, which takes all of the cut's recipients
pub record IsEmptyRoomOf (groups : List GroupNumbers) (cut : Transaction) (room : Room) : Type 0 where
  pub group : room.group ≡ numbers_at groups cut.key
  pub items : room.items.now ≡ cut.items
  pub empty : room.to.items ≡ []
  pub takes : length cut.items ≤ vec_capacity room.to

-- a cut's room, with the addresses of the cut's recipients where it's full
pub record IsRoomOf (recipients : List Routed) (groups : List GroupNumbers) (cut : Transaction) (room : Room) : Type 0 where
  pub group : room.group ≡ numbers_at groups cut.key
  pub full : IsTrue room.is_full → room.to.items ≡ map (address_at recipients) cut.items

-- the rooms of cuts, each at its cut's place
pub record AreRooms (IsRoom : Transaction → Room → Type 0) (cuts : List Transaction) (rooms : List Room) : Type 0 where
  pub long : length rooms ≡ length cuts
  pub each : (k : ℕ) (cut : Transaction) (room : Room) → k < length cuts → IsRoom (slice_index_or cuts k cut) (slice_index_or rooms k room)
