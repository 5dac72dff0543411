-- Local parts in lower case, and whether a node is reached.
use Rattle.std.proofs.Common.{◌≡◌, ℕ, ◌<◌, Some, None, List, length, get_or, slice_get, ap, ◌∙◌}
use Rattle.std.specs.Bool.{IsTrue}
use Rattle.std.specs.Prelude.{Contains}
use Rattle.std.specs.Char.{to_ascii_lowercase}
use Rattle.std.proofs.lemmas.List.{get_or_default}
use Rattle.std.proofs.lemmas.List.Elements.{All-get_or}
use Rattle.std.proofs.lemmas.Option.{slice_get-get_or}
use Rattle.std.proofs.lemmas.Str.Ascii.{lowercase-lowercase}
use Rattle.relay_text.specs.Bytes.{folded}
use Rattle.relay_text.specs.AddressParts.{AddressParts}
use Rattle.relay_text.specs.Addresses.{is_address}
use Rattle.relay_tables.specs.Parts.{is_local_part}
use Rattle.relay_tables.specs.declared.node.Node.{Node}
use Rattle.relay_tables.specs.GraphParts.{GraphParts}
use Rattle.relay_tables.specs.Senders.{Sender}
use Rattle.relay_tables.proofs.LocalParts.{is_local_part-address, is_local_part-folded}
use Rattle.relay_tables.proofs.Turning.{map_after}
use Rattle.relay_pairs.specs.declared.reached.Reached.{Reached}
use Rattle.relay_job.specs.declared.job.Job.{Job}
use Rattle.relay_planning.specs.Delivery.{IsJobGraph, IsReachedNode}
use Rattle.relay_planning.specs.Reaching.{AreReachedPairs}
use Rattle.aliasplan_explain.proofs.UnreachedFacts.{one_place, contained_get}

-- what is folded stays as it is
pub folded_again : (text : List ℕ) → folded (folded text) ≡ folded text
folded_again text = map_after to_ascii_lowercase to_ascii_lowercase to_ascii_lowercase lowercase-lowercase text

-- the folded local part of an address is one at the origin too
pub folded_part : (a : AddressParts) → IsTrue (is_address a) → IsTrue (is_local_part (folded a.local))
folded_part a valid = is_local_part-folded a.local (is_local_part-address a valid)

module _ (job : Job) (g : GraphParts) (pairs : List Reached) (all : AreReachedPairs job g pairs) (node : Node) where
  -- a node is reached where some pair has its number
  pub node_reached : (n : ℕ) → slice_get g.nodes n ≡ Some node → (i : ℕ) (d : Reached) → i < length pairs → (get_or pairs i d).node ≡ n → IsReachedNode job node
  node_reached n at i d inside has =
      let p : Reached = get_or pairs i d in
      let there : Contains pairs p = (i, inside, get_or_default pairs i p d inside) in
      let sender : Sender = get_or g.senders p.sender None in
      let within = (All-get_or (λ (q : Reached). (q.sender < length g.senders) × (q.node < length g.nodes)) pairs i d inside all.in_graph).0 in
      (sender, all.reached p sender node there (slice_get-get_or g.senders p.sender None within) (ap (slice_get g.nodes) has ∙ at))

  -- and where none has it, the node isn't
  pub node_not_reached : (n : ℕ) → IsJobGraph job g → slice_get g.nodes n ≡ Some node → ((i : ℕ) (d : Reached) → i < length pairs → (get_or pairs i d).node ≡ n → ⊥) → ¬ IsReachedNode job node
  node_not_reached n graph at none reached =
      let h = all.numbered (record { sender = reached.0; node = node }) reached.1 in
      let same : h.0.node ≡ n = one_place g.nodes graph.distinct h.0.node n node h.3 at in
      none h.1.0 h.0 h.1.1 (ap (λ (p : Reached). p.node) h.1.2 ∙ same)

  -- nor is one that isn't in the graph
  pub node_unknown : ¬ Contains g.nodes node → ¬ IsReachedNode job node
  node_unknown none reached =
      let h = all.numbered (record { sender = reached.0; node = node }) reached.1 in
      none (contained_get g.nodes h.0.node node h.3)
