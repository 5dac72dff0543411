-- What is reached from each recipient alone.
use Rattle.std.proofs.Common.{◌≡◌, ℕ, ◌<◌, List, [], ◌∷◌, length, map, Contains, sym, ap, ◌∙◌, subst, inl, inr, arith}
use Rattle.std.specs.Prelude.{◌↔◌, All}
use Rattle.std.proofs.lemmas.List.Elements.{All-cons}
use Rattle.relay_text.specs.AddressParts.{AddressParts}
use Rattle.relay_tables.specs.Directory.{Directory}
use Rattle.relay_tables.specs.GraphParts.{GraphParts}
use Rattle.relay_tables.specs.Graphs.{IsClosedGraph}
use Rattle.relay_tables.specs.Senders.{Sender, Pair}
use Rattle.relay_tables.specs.Targets.{recipient_target}
use Rattle.relay_pairs.specs.Pairs.{with_root}
use Rattle.relay_pairs.specs.Chains.{IsStart, IsReachedBy, IsReachedFrom}
use Rattle.relay_pairs.proofs.Members.{in_head, cons_cases, Contains-map, Contains-from_map}

module _ (d : Directory) (sender : Sender) (recipients : List AddressParts) (pair : Pair) where
  from_some : IsReachedBy d sender recipients pair → (recipient : AddressParts) × Contains recipients recipient × IsReachedFrom d sender recipient pair
  from_some r =
      let a = Contains-from_map (recipient_target d) recipients r.0.node r.2.target in
      let start : IsStart d sender (a.0 ∷ []) r.0 = record { envelope = r.2.envelope; target = in_head (recipient_target d a.0) [] r.0.node a.2 } in
      (a.0, a.1, (r.0, r.1, start, r.3))

  some_from : (recipient : AddressParts) × Contains recipients recipient × IsReachedFrom d sender recipient pair → IsReachedBy d sender recipients pair
  some_from h =
      let r = h.2 in
      let a = Contains-from_map (recipient_target d) (h.0 ∷ []) r.0.node r.2.target in
      let same : h.0 ≡ a.0 = elim (cons_cases h.0 [] a.0 a.1) [ inl here ↦ here | inr none ↦ absurd (omega (arith, none.1)) ] in
      let target : Contains (map (recipient_target d) recipients) r.0.node = subst (Contains (map (recipient_target d) recipients)) (ap (recipient_target d) same ∙ a.2) (Contains-map (recipient_target d) recipients h.0 h.1) in
      let start : IsStart d sender recipients r.0 = record { envelope = r.2.envelope; target = target } in
      (r.0, r.1, start, r.3)

  pub by_some : IsReachedBy d sender recipients pair ↔ ((recipient : AddressParts) × Contains recipients recipient × IsReachedFrom d sender recipient pair)
  by_some = (from_some, some_from)

-- the graph with one root is closed too
pub closed_with : (g : GraphParts) (root : ℕ) → IsClosedGraph g → root < length g.nodes → IsClosedGraph (with_root g root)
closed_with g root closed below = record {
  few_nodes = closed.few_nodes;
  few_senders = closed.few_senders;
  some_sender = closed.some_sender;
  roots = one_root;
  children = closed.children;
  senders = closed.senders;
} where
  one_root : All (λ (n : ℕ). n < length g.nodes) (root ∷ [])
  one_root = All-cons (λ (n : ℕ). n < length g.nodes) root [] below (λ k d inside. absurd (omega (arith, inside)))
