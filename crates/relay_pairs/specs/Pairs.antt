-- Which pairs of sender and node are reached in a graph, by their numbers.
use Rattle.std.specs.Prelude.{◌≡◌, ◌≢◌, ℕ, ◌+◌, ◌*◌, ◌/◌, ◌%◌, ◌^◌, ◌<◌, nat_lt, List, [], ◌∷◌, length, map, All, AllPairs, Contains, ◌↔◌, if◌then◌else◌}
use Rattle.std.specs.List.Sorted.{IsStrictlyIncreasing}
use Rattle.relay_rounds.specs.Walks.{IsReached}
use Rattle.relay_tables.specs.GraphParts.{GraphParts}
use Rattle.relay_tables.specs.Graphs.{child_numbers, sender_number_after}
use Rattle.relay_pairs.specs.declared.reached.Reached.{Reached}

-- A pair's key: by sender, and then by node, of which there are at most 2^24.
abbrev pub key_of : Reached → ℕ
key_of p = p.sender * 2 ^ 24 + p.node

abbrev pub pair_at : ℕ → Reached
pair_at key = record { sender = key / 2 ^ 24; node = key % 2 ^ 24 }

module _ (g : GraphParts) where
  -- A chain starts at the envelope's sender with a root.
  pub record IsRoot (pair : Reached) : Type 0 where
    pub sender : pair.sender ≡ 0
    pub node : Contains g.roots pair.node

  -- A step leads to a child, under the sender after the node.
  pub record IsStep (from to : Reached) : Type 0 where
    pub child : Contains (child_numbers g from.node) to.node
    pub sender : to.sender ≡ sender_number_after g from.sender from.node

  abbrev pub IsReachedPair : Reached → Type 0
  IsReachedPair pair = IsReached IsRoot IsStep pair

  -- all that are reached, by sender and then by node, each once
  pub record ArePairs (pairs : List Reached) : Type 0 where
    pub ascending : IsStrictlyIncreasing (map key_of pairs)
    pub members : (pair : Reached) → Contains pairs pair ↔ IsReachedPair pair

  -- more than n pairs are reached
  pub record HasMorePairs (n : ℕ) : Type 0 where
    pub pairs : List Reached
    pub distinct : AllPairs (λ p q. p ≢ q) pairs
    pub reached : All IsReachedPair pairs
    pub more : n < length pairs

  abbrev pub key_count : ℕ
  key_count = length g.senders * 2 ^ 24

  -- the keys after a key: those of the node's children, under the sender after it
  abbrev pub key_after : Reached → ℕ → ℕ
  key_after from child = sender_number_after g from.sender from.node * 2 ^ 24 + child

  abbrev pub keys_from : Reached → List ℕ
  keys_from from = if nat_lt from.node (length g.nodes) then map (key_after from) (child_numbers g from.node) else []

  abbrev pub keys_after : ℕ → List ℕ
  keys_after key = keys_from (pair_at key)

  -- ascending nodes of the graph, with all children of each
  pub record IsClosedUnder (nodes : List ℕ) : Type 0 where
    pub in_graph : All (λ n. n < length g.nodes) nodes
    pub children : (parent child : ℕ) → Contains nodes parent → Contains (child_numbers g parent) child → Contains nodes child

-- the same graph with one root alone
abbrev pub with_root : GraphParts → ℕ → GraphParts
with_root g root = record g { roots = root ∷ [] }

-- A chain from one root starts at the envelope's sender with that root.
abbrev pub IsReachedPairFrom : GraphParts → ℕ → Reached → Type 0
IsReachedPairFrom g root pair = IsReachedPair (with_root g root) pair

-- all that are reached from one root, by sender and then by node, each once
abbrev pub ArePairsFrom : GraphParts → ℕ → List Reached → Type 0
ArePairsFrom g root pairs = ArePairs (with_root g root) pairs

-- more than n pairs are reached from one root
abbrev pub HasMorePairsFrom : GraphParts → ℕ → ℕ → Type 0
HasMorePairsFrom g root n = HasMorePairs (with_root g root) n

-- the nodes of some pairs, ascending, each once
pub record AreNodesOf (pairs : List Reached) (nodes : List ℕ) : Type 0 where
  pub ascending : IsStrictlyIncreasing nodes
  pub members : (n : ℕ) → Contains nodes n ↔ ((pair : Reached) × Contains pairs pair × (pair.node ≡ n))
