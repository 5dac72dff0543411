-- What the numbers of reached pairs and nodes stand for.
use Rattle.std.proofs.Common.{◌≡◌, ℕ, ◌<◌, List, length, All, slice_get, ◌↔◌, refl, sym, ap, ◌∙◌, subst}
use Rattle.std.proofs.lemmas.Option.{same_Some}
use Rattle.relay_tables.specs.declared.node.Node.{Node}
use Rattle.relay_tables.specs.GraphParts.{GraphParts}
use Rattle.relay_tables.specs.Senders.{Pair}
use Rattle.relay_pairs.specs.declared.reached.Reached.{Reached}
use Rattle.relay_pairs.specs.Pairs.{ArePairs, AreNodesOf}
use Rattle.relay_pairs.specs.Chains.{HasNumbers}
use Rattle.relay_pairs.proofs.Numbered.{has_pair, leads}
use Rattle.relay_job.specs.declared.job.Job.{Job}
use Rattle.relay_planning.specs.Delivery.{directory_of, IsReachedPair, IsJobPart}
use Rattle.relay_planning.specs.Reaching.{AreReachedPairs, AreReachedNodes}

module _ (job : Job) (g : GraphParts) (numbers : (pair : Pair) → IsReachedPair job pair ↔ ((n : Reached) × HasNumbers g pair n)) (pairs : List Reached) (all : ArePairs g pairs) where
  pub are_reached : All (λ p. (p.sender < length g.senders) × (p.node < length g.nodes)) pairs → AreReachedPairs job g pairs
  are_reached in_graph =
      record {
        in_graph = in_graph;
        reached = λ p sender node c at_sender at_node.
            let has : HasNumbers g (record { sender = sender; node = node }) p = record { reached = (all.members p).0 c; sender = at_sender; node = at_node } in
            (numbers (record { sender = sender; node = node })).1 (p, has);
        numbered = λ pair r.
            let h = (numbers pair).0 r in
            (h.0, (all.members h.0).1 h.1.reached, h.1.sender, h.1.node);
      }

  pub nodes_reached : IsJobPart job g → (nodes : List ℕ) → AreNodesOf pairs nodes → All (λ n. n < length g.nodes) nodes → AreReachedNodes job g nodes
  nodes_reached is nodes are in_graph =
      record {
        in_graph = in_graph;
        reached = λ n node c at.
            let p = (are.members n).0 c in
            let has = has_pair (directory_of job) job.sender job.recipients g (leads (directory_of job) job.sender job.recipients g is) p.0 ((all.members p.0).0 p.1) in
            let same : has.pair.node ≡ node = same_Some has.pair.node node (sym has.node_at ∙ ap (slice_get g.nodes) p.2 ∙ at) in
            (has.pair.sender, subst (λ (m : Node). IsReachedPair job (record { sender = has.pair.sender; node = m })) same has.reached);
        numbered = λ node r.
            let h = (numbers (record { sender = r.0; node = node })).0 r.1 in
            (h.0.node, (are.members h.0.node).1 (h.0, (all.members h.0).1 h.1.reached, refl), h.1.node);
      }
