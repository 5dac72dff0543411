-- Keys: the numbers of the groups that deliveries fall into, in order.
use Rattle.std.specs.Prelude.{◌≡◌, ◌⊎◌, ℕ, ◌<◌, List, length, map, All, AllPairs, slice_index, slice_index_or}
use Rattle.relay_rings.specs.declared.batching.Placed.{Placed}
use Rattle.relay_delivery.specs.declared.group_numbers.GroupNumbers.{GroupNumbers}
use Rattle.relay_delivery.specs.declared.routed.Routed.{Routed}
use Rattle.relay_delivery.specs.declared.delivery.Delivery.{Delivery}

-- by sender, and then by route
abbrev pub group_below : GroupNumbers → GroupNumbers → Type 0
group_below g h = (g.sender < h.sender) ⊎ ((g.sender ≡ h.sender) × (g.route < h.route))

-- a group by its key
abbrev pub numbers_at : List GroupNumbers → ℕ → GroupNumbers
numbers_at groups key = slice_index_or groups key (record { sender = 0; route = 0 })

-- the route of a recipient, both by number
abbrev pub route_by : List Routed → ℕ → ℕ
route_by recipients n = slice_index (map (λ (r : Routed). r.route) recipients) n

-- a recipient under a key is a delivery of the key's sender
abbrev pub delivery_of : List GroupNumbers → Placed → Delivery
delivery_of groups p = record { sender = (numbers_at groups p.key).sender; recipient = p.item }

-- a recipient is under the key of a group of its own route
abbrev pub IsUnderRoute : List Routed → List GroupNumbers → Placed → Type 0
IsUnderRoute recipients groups p = (p.key < length groups) × ((numbers_at groups p.key).route ≡ route_by recipients p.item)

-- The groups are distinct and in order, and each delivery, in order, is under the key of its sender and of its recipient's route.
pub record AreKeyed (recipients : List Routed) (deliveries : List Delivery) (groups : List GroupNumbers) (placed : List Placed) : Type 0 where
  pub ascending : AllPairs group_below groups
  pub under_routes : All (IsUnderRoute recipients groups) placed
  pub in_turn : map (delivery_of groups) placed ≡ deliveries
