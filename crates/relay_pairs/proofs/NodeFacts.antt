-- The nodes of reached pairs.
use Rattle.std.proofs.Common.{◌≡◌, ℕ, ◌<◌, Bool, true, List, length, get_or, All, Contains, refl, sym, subst}
use Rattle.std.proofs.lemmas.List.Elements.{Contains-get_or}
use Rattle.relay_tables.specs.GraphParts.{GraphParts}
use Rattle.relay_tables.specs.Graphs.{child_numbers, sender_number_after, IsClosedGraph}
use Rattle.relay_pairs.specs.declared.reached.Reached.{Reached}
use Rattle.relay_pairs.specs.Pairs.{IsRoot, IsStep, ArePairs, AreNodesOf, IsClosedUnder}
use Rattle.relay_pairs.specs.Marks.{mark_at, AreMarks, AreMarked}
use Rattle.relay_pairs.proofs.Walking.{reached_step}
use Rattle.relay_pairs.proofs.Keyed.{node_reached}

pub nodes_below : (g : GraphParts) (pairs : List Reached) → IsClosedGraph g → ArePairs g pairs → All (λ p. p.node < length g.nodes) pairs
nodes_below g pairs closed all = λ k d short. node_reached g closed (get_or pairs k d) ((all.members (get_or pairs k d)).0 (Contains-get_or pairs k d short))

pub nodes_are : (pairs : List Reached) (marks : List Bool) (nodes : List ℕ) → AreMarks pairs marks → AreMarked marks nodes → AreNodesOf pairs nodes
nodes_are pairs marks nodes marked are = record {
  ascending = are.ascending;
  members = λ n. (
    λ has. marked.only n ((are.members n).0 has),
    λ h. (are.members n).1 (subst (λ k. mark_at marks k ≡ true) h.2 (marked.of_pairs h.0 h.1)),
  );
}

pub nodes_closed : (g : GraphParts) (pairs : List Reached) (nodes : List ℕ) → IsClosedGraph g → ArePairs g pairs → AreNodesOf pairs nodes → IsClosedUnder g nodes
nodes_closed g pairs nodes closed all are =
    record {
      in_graph = λ k d short.
          let n : ℕ = get_or nodes k d in
          let h = (are.members n).0 (Contains-get_or nodes k d short) in
          subst (λ (m : ℕ). m < length g.nodes) h.2 (node_reached g closed h.0 ((all.members h.0).0 h.1));
      children = λ parent child c step.
          let h = (are.members parent).0 c in
          let from : Reached = h.0 in
          let to : Reached = record { sender = sender_number_after g from.sender from.node; node = child } in
          let s : IsStep g from to = record { child = subst (λ (m : ℕ). Contains (child_numbers g m) child) (sym h.2) step; sender = refl } in
          let r = reached_step (IsRoot g) (IsStep g) from to ((all.members from).0 h.1) s in
          (are.members child).1 (to, (all.members to).1 r, refl);
    }
