use Rattle.std.proofs.Common.{◌≡◌, ℕ, ◌<◌, false, inl, inr, Some, Option, List, length, map, get_or, slice_get, sym, ap, ◌∙◌, subst, arith}
use Rattle.std.specs.Prelude.{IfSome, option_map}
use Rattle.std.specs.List.{list_any}
use Rattle.std.proofs.lemmas.Bool.{cases_Bool}
use Rattle.std.proofs.lemmas.List.{length-map, get_or-map}
use Rattle.std.proofs.lemmas.List.Elements.{All-from_get_or}
use Rattle.std.proofs.lemmas.List.Folds.{list_any_none}
use Rattle.std.proofs.lemmas.Option.{same_Some, slice_get-get_or}
use Rattle.relay_tables.specs.declared.node.Node.{Node}
use Rattle.relay_tables.specs.Graphs.{same_node}
use Rattle.relay_tables.specs.Numbering.{node_of, node_hash}
use Rattle.relay_tables.proofs.NodeKeys.{node_true}
use Rattle.relay_tables.proofs.finding.find_node.Goals as goal

-- where no node under a hash is one, no node is
none_by_hash : (key : ℕ) (n : Node) (nodes : List Node) (hashes : List ℕ) (hash : ℕ) → hashes ≡ map (node_hash key) nodes → hash ≡ node_hash key n
    → ((k : ℕ) → k < length hashes → get_or hashes k 0 ≡ hash → option_map (same_node n) (slice_get nodes k) ≡ Some false) → list_any (same_node n) nodes ≡ false
none_by_hash key n nodes hashes hash hashed own other =
    list_any_none (same_node n) nodes (All-from_get_or (λ (m : Node). same_node n m ≡ false) nodes n (λ k below.
    let m = get_or nodes k n in
    elim (cases_Bool (same_node n (get_or nodes k n))) [
      | inl same ↦
          let at : get_or hashes k 0 ≡ node_hash key (get_or nodes k n) = ap (λ (hs : List ℕ). get_or hs k 0) hashed ∙ get_or-map (node_hash key) nodes k n 0 below in
          let here : get_or hashes k 0 ≡ hash = at ∙ ap (node_hash key) (sym (node_true n m same)) ∙ sym own in
          let known = other k (omega (arith, ap length hashed, length-map nodes (node_hash key), below)) here in
          same_Some (same_node n (get_or nodes k n)) false (sym (ap (option_map (same_node n)) (slice_get-get_or nodes k n below)) ∙ known)
      | inr not_same ↦ not_same
    ]))

pub returns-clause-none : goal.returns-clause-none
returns-clause-none c = λ none.
    none_by_hash c.args.key (node_of c.args.lead) c.args.nodes.now c.args.hashes.now c.args.hash c.requires.hashed c.requires.hash
    (λ k. c.find_last.ensures.after k (subst (λ (o : Option ℕ). IfSome o (λ n. n < k)) (sym none) tt))
