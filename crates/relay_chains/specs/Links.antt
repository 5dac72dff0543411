-- What is true of the nodes of a `Links`.
use Rattle.std.specs.Prelude.{ℕ, zero, suc, ◌*◌, ◌/◌, ◌^◌, ◌≤◌, ◌==◌, List, length, map, slice_index, if◌then◌else◌}
use Rattle.relay_chains.specs.Buckets.{AreLinked}
use Rattle.relay_chains.specs.declared.links.LinkNode.{LinkNode}

-- the word of the last one under a hash among the first numbers, or 0 for none
unfoldable pub last_under : List ℕ → ℕ → ℕ → ℕ
last_under hashes hash zero = 0
last_under hashes hash (suc number) = if slice_index hashes number == hash then suc number else last_under hashes hash number

abbrev pub hashes_of : List LinkNode → List ℕ
hashes_of nodes = map (λ node. node.hash) nodes

abbrev pub links_of : List LinkNode → List ℕ
links_of nodes = map (λ node. node.link) nodes

-- the bucket of a hash of 32 bits among so many: in their order, as the hashes are
abbrev pub bucket_under : ℕ → ℕ → ℕ
bucket_under heads hash = hash * heads / 2 ^ 32

abbrev pub buckets_of : ℕ → List ℕ → List ℕ
buckets_of heads hashes = map (bucket_under heads) hashes

-- the chains lead through the nodes, each in the bucket of its hash
pub record AreHashed (heads : List ℕ) (nodes : List LinkNode) : Type 0 where
  pub linked : AreLinked heads (links_of nodes) (buckets_of (length heads) (hashes_of nodes))
  pub few : length heads ≤ 2 ^ 32
