-- Nodes in one vector, linked by number into rings.
use Rattle.std.specs.Prelude.{zero, suc, ◌≡◌, ℕ, ◌-◌, ◌^◌, ◌<◌, ◌≤◌, ◌==◌, if◌then◌else◌, List, [], ◌∷◌, ◌++◌, All, length, sum_by, slice_index_or, slice_set}
use Rattle.relay_rings.specs.declared.walking.Node.{Node}
use Rattle.relay_rings.specs.declared.linking.Ring.{Ring}

-- a node by its number
abbrev pub node_at : List Node → ℕ → Node
node_at nodes n = slice_index_or nodes n (record { item = 0; link = 0 })

-- a destination's ring, empty where there is no such destination
abbrev pub ring_at : List Ring → ℕ → Ring
ring_at rings dest = slice_index_or rings dest (record { newest = 0; count = 0 })

-- the node that so many links lead to, from a node on
abbrev pub after : List Node → ℕ → ℕ → ℕ
after nodes n zero = n
after nodes n (suc k) = after nodes (node_at nodes n).link k

-- the items of so many nodes along the links, from a node on
abbrev pub items_from : List Node → ℕ → ℕ → List ℕ
items_from nodes n zero = []
items_from nodes n (suc k) = (node_at nodes n).item ∷ items_from nodes (node_at nodes n).link k

-- The items of a ring: the newest node's link closes the ring, so it leads to the oldest.
abbrev pub ring_items : List Node → Ring → List ℕ
ring_items nodes ring = items_from nodes (node_at nodes ring.newest).link ring.count

-- the k-th node of a ring, of which the oldest is the 0th
abbrev pub place : List Node → Ring → ℕ → ℕ
place nodes ring k = after nodes (node_at nodes ring.newest).link k

-- a new node alone, linked to itself, or between the newest node of its ring and the oldest
abbrev pub linked : List Node → Ring → ℕ → List Node
linked nodes ring item =
    if ring.count == 0
    then nodes ++ record { item = item; link = length nodes } ∷ []
    else slice_set nodes ring.newest (record { item = (node_at nodes ring.newest).item; link = length nodes }) ++ record { item = item; link = (node_at nodes ring.newest).link } ∷ []

-- Each ring closes through its newest node, and no node stands in two rings or twice in one; each node is in a ring.
pub record AreRings (nodes : List Node) (rings : List Ring) (limit : ℕ) : Type 0 where
  pub limit_small : limit ≤ 2 ^ 32 - 2
  pub few : length nodes ≤ limit
  pub counted : sum_by (λ (r : Ring). r.count) rings ≡ length nodes
  pub links : All (λ (n : Node). n.link < length nodes) nodes
  pub newest : (dest : ℕ) → 0 < (ring_at rings dest).count → (ring_at rings dest).newest < length nodes
  pub closed : (dest : ℕ) → after nodes (ring_at rings dest).newest (ring_at rings dest).count ≡ (ring_at rings dest).newest
  pub apart : (d e i j : ℕ) → i < (ring_at rings d).count → j < (ring_at rings e).count → place nodes (ring_at rings d) i ≡ place nodes (ring_at rings e) j → (d ≡ e) × (i ≡ j)
