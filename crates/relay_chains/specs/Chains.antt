-- What is true of the nodes of a `Chains`.
use Rattle.std.specs.Prelude.{◌≢◌, ℕ, ◌-◌, ◌^◌, ◌≤◌, List, length, map, AllPairs}
use Rattle.relay_chains.specs.Buckets.{AreLinked}
use Rattle.relay_chains.specs.declared.chains.Node.{Node}

-- the keys in the order of their numbers
abbrev pub keys_of : List Node → List ℕ
keys_of nodes = map (λ node. node.key) nodes

abbrev pub links_of : List Node → List ℕ
links_of nodes = map (λ node. node.link) nodes

-- the nodes hold distinct keys, at most the limit, and the chains lead through them
pub record AreChained (heads : List ℕ) (nodes : List Node) (limit : ℕ) : Type 0 where
  pub linked : AreLinked heads (links_of nodes) (keys_of nodes)
  pub distinct : AllPairs (λ a b. a ≢ b) (keys_of nodes)
  pub within : length nodes ≤ limit
  pub small : limit ≤ 2 ^ 32 - 2
