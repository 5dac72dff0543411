-- The numbers of what a job reaches in its graph.
use Rattle.std.specs.Prelude.{◌≡◌, ℕ, ◌<◌, List, length, All, Contains, slice_get, Some}
use Rattle.relay_tables.specs.declared.node.Node.{Node}
use Rattle.relay_tables.specs.GraphParts.{GraphParts}
use Rattle.relay_tables.specs.Senders.{Sender, Pair}
use Rattle.relay_pairs.specs.declared.reached.Reached.{Reached}
use Rattle.relay_job.specs.declared.job.Job.{Job}
use Rattle.relay_planning.specs.Delivery.{IsReachedPair, IsReachedNode}

module _ (job : Job) (g : GraphParts) where
  -- the numbers of all pairs of sender and node that are reached, and of no others
  pub record AreReachedPairs (pairs : List Reached) : Type 0 where
    pub in_graph : All (λ p. (p.sender < length g.senders) × (p.node < length g.nodes)) pairs
    pub reached : (p : Reached) (sender : Sender) (node : Node) → Contains pairs p → slice_get g.senders p.sender ≡ Some sender → slice_get g.nodes p.node ≡ Some node → IsReachedPair job (record { sender = sender; node = node })
    pub numbered : (pair : Pair) → IsReachedPair job pair → (p : Reached) × Contains pairs p × (slice_get g.senders p.sender ≡ Some pair.sender) × (slice_get g.nodes p.node ≡ Some pair.node)

  -- the numbers of all nodes that are reached, and of no others
  pub record AreReachedNodes (nodes : List ℕ) : Type 0 where
    pub in_graph : All (λ n. n < length g.nodes) nodes
    pub reached : (n : ℕ) (node : Node) → Contains nodes n → slice_get g.nodes n ≡ Some node → IsReachedNode job node
    pub numbered : (node : Node) → IsReachedNode job node → (n : ℕ) × Contains nodes n × (slice_get g.nodes n ≡ Some node)
