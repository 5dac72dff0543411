-- Trails from a recipient to a pair of sender and node, and which of them is best.
use Rattle.std.specs.Prelude.{◌≡◌, ℕ, ◌<◌, List, [], ◌∷◌, length, map, slice_get, All, Contains, Option, Some, option_map, option_and_then, ◌⊎◌, ◌↔◌}
use Rattle.std.specs.List.Sorted.{IsStrictlyIncreasing}
use Rattle.relay_tables.specs.GraphParts.{GraphParts}
use Rattle.relay_tables.specs.Graphs.{child_numbers, sender_number_after}
use Rattle.relay_pairs.specs.declared.reached.Reached.{Reached}
use Rattle.relay_pairs.specs.Pairs.{IsReachedPair}
use Rattle.relay_trails.specs.declared.found.Found.{Found}

-- the number of a recipient, and then the number of an item of each node on the way
pub record Trail : Type 0 where
  pub recipient : ℕ
  pub items : List ℕ

-- of two lists of one length, the one with the lesser number where they first differ
abbrev pub IsBefore : List ℕ → List ℕ → Type 0
IsBefore [] ys = ⊥
IsBefore (x ∷ xs) [] = ⊥
IsBefore (x ∷ xs) (y ∷ ys) = (x < y) ⊎ ((x ≡ y) × IsBefore xs ys)

-- A shorter trail is less. Of the same length, the one with the lesser recipient is, and then the one with the lesser items.
abbrev pub IsLess : Trail → Trail → Type 0
IsLess t u = (length t.items < length u.items) ⊎ ((length t.items ≡ length u.items) × IsBefore (t.recipient ∷ t.items) (u.recipient ∷ u.items))

module _ (g : GraphParts) where
  -- the target of a recipient, under the envelope's sender
  abbrev pub pair_of_recipient : ℕ → Option Reached
  pair_of_recipient recipient = option_map (λ n. record { sender = 0; node = n }) (slice_get g.roots recipient)

  -- the target of an item of the pair's node, under the sender after the node
  abbrev pub pair_after : ℕ → Reached → Option Reached
  pair_after item pair = option_map (λ n. record { sender = sender_number_after g pair.sender pair.node; node = n }) (slice_get (child_numbers g pair.node) item)

  abbrev pub pair_along : Option Reached → List ℕ → Option Reached
  pair_along from [] = from
  pair_along from (item ∷ items) = pair_along (option_and_then (pair_after item) from) items

  -- The pair that a trail ends in. There is none where it has a recipient or an item that isn't there.
  abbrev pub ends_in : Trail → Option Reached
  ends_in t = pair_along (pair_of_recipient t.recipient) t.items

  -- it ends in the pair, and none that is less does
  pub record IsBest (pair : Reached) (t : Trail) : Type 0 where
    pub ends : ends_in t ≡ Some pair
    pub least : (u : Trail) → ends_in u ≡ Some pair → ¬ IsLess u t

  -- the nodes that items lead to from a node, one after another
  abbrev pub AreNodesFrom : ℕ → List ℕ → List ℕ → Type 0
  AreNodesFrom at [] nodes = nodes ≡ []
  AreNodesFrom at (item ∷ items) [] = ⊥
  AreNodesFrom at (item ∷ items) (to ∷ nodes) = (slice_get (child_numbers g at) item ≡ Some to) × AreNodesFrom to items nodes

  -- the nodes on the way of a trail that was found: the recipient's target, and then the target of each item
  pub record HasNodes (found : Found) : Type 0 where
    pub root : ℕ
    pub root_is : slice_get g.roots found.recipient ≡ Some root
    pub more : List ℕ
    pub nodes_are : found.nodes.items ≡ root ∷ more
    pub lead : AreNodesFrom root found.items.items more

abbrev pub trail_of : Found → Trail
trail_of found = record { recipient = found.recipient; items = found.items.items }

-- The senders under which the node is reached, ascending, each once and with its best trail.
pub record AreBestTrails (g : GraphParts) (node : ℕ) (found : List Found) : Type 0 where
  pub ascending : IsStrictlyIncreasing (map (λ f. f.sender) found)
  pub senders : (s : ℕ) → Contains (map (λ f. f.sender) found) s ↔ IsReachedPair g (record { sender = s; node = node })
  pub best : All (λ f. IsBest g (record { sender = f.sender; node = node }) (trail_of f)) found
