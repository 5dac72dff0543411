use Rattle.std.proofs.Common.{◌≡◌, ℕ, ◌<◌, ◌++◌, [], ◌∷◌, List, length, reverse, sym, ap, ◌∙◌, subst, append_assoc, arith}
use Rattle.std.proofs.lemmas.List.{reverse-append}
use Rattle.relay_trails.specs.declared.step.Link.{Link}
use Rattle.relay_pairs.specs.declared.reached.Reached.{Reached}
use Rattle.relay_trails.specs.Steps.{IsBackward, next_trail, pair_at, trail_at, with_item}
use Rattle.relay_trails.specs.Trails.{Trail, AreNodesFrom}
use Rattle.relay_trails.proofs.Nodes.{child_on, node_on, root_on}
use Rattle.relay_trails.proofs.answering.read_back.Goals as goal

reverse_push : (xs : List ℕ) (x : ℕ) (ys : List ℕ) → ys ≡ xs ++ x ∷ [] → reverse ys ≡ x ∷ reverse xs
reverse_push xs x ys e = ap reverse e ∙ reverse-append xs (x ∷ [])

pub loop-nodes-preserved : goal.loop-nodes-preserved
loop-nodes-preserved c =
    let g = c.args.graph.now in
    let pairs = c.args.pairs.now in
    let steps = c.args.steps.now in
    let at = c.loop-nodes.at in
    let from = c.in-Item.from in
    let item = c.in-Item.item in
    let inside : at < length steps = c.loop-nodes.invariant.within in
    let items = c.loop-nodes.items.items in
    let nodes = c.loop-nodes.nodes.items in
    let before : from < at = subst (λ (l : Link). IsBackward l at) c.in-Item.is (c.requires.linked.backward at inside) in
    let trail : trail_at steps at ≡ with_item (trail_at steps from) item = c.requires.linked.trails at inside ∙ ap (next_trail steps) c.in-Item.is in
    let items_are = reverse_push items item c.push-in-Item.new.self.items c.in_ok-push-in-Item.ensures.items in
    let here : (pair_at steps at).node ≡ node_on pairs steps at = ap (λ (p : Reached). p.node) (c.requires.ends.pairs_are at inside) in
    let nodes_are = reverse_push nodes (pair_at steps at).node c.push.new.self.items c.in_ok-push.ensures.items ∙ ap (λ (n : ℕ). n ∷ reverse nodes) here in
    let child = child_on g pairs steps c.requires.linked c.requires.ends at inside from item c.in-Item.is in
    let next : ℕ = node_on pairs steps from in
    record {
      within = omega (arith, before, inside);
      recipient = c.loop-nodes.invariant.recipient ∙ ap (λ (t : Trail). t.recipient) trail;
      items =
          c.loop-nodes.invariant.items
          ∙ ap (λ (t : Trail). t.items ++ reverse items) trail
          ∙ append_assoc (trail_at steps from).items (item ∷ []) (reverse items)
          ∙ ap (λ (xs : List ℕ). (trail_at steps from).items ++ xs) (sym items_are);
      nodes =
          subst (λ (xs : List ℕ). AreNodesFrom g next xs (reverse c.push.new.self.items)) (sym items_are)
          (subst (λ (ns : List ℕ). AreNodesFrom g next (item ∷ reverse items) ns) (sym nodes_are) (child, c.loop-nodes.invariant.nodes));
    }

pub returns-in-Recipient-clause-nodes : goal.returns-in-Recipient-clause-nodes
returns-in-Recipient-clause-nodes c =
    let g = c.args.graph.now in
    let pairs = c.args.pairs.now in
    let steps = c.args.steps.now in
    let at = c.loop-nodes.at in
    let nodes = c.loop-nodes.nodes.items in
    let root : ℕ = node_on pairs steps at in
    record {
      root = root;
      root_is = root_on g pairs steps c.requires.linked c.requires.ends at c.loop-nodes.invariant.within c.in-Recipient.recipient c.in-Recipient.is;
      more = reverse nodes;
      nodes_are =
          c.reverse-in-Recipient.ensures.items
          ∙ reverse_push nodes (pair_at steps at).node c.push.new.self.items c.in_ok-push.ensures.items
          ∙ ap (λ (n : ℕ). n ∷ reverse nodes) (ap (λ (p : Reached). p.node) (c.requires.ends.pairs_are at c.loop-nodes.invariant.within));
      lead = subst (λ (xs : List ℕ). AreNodesFrom g root xs (reverse nodes)) (sym c.reverse.ensures.items) c.loop-nodes.invariant.nodes;
    }
