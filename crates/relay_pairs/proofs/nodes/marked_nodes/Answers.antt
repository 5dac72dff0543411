use Rattle.std.proofs.Common.{◌+◌, ◌∙◌, ℕ, List, sym, ap, subst}
use Rattle.relay_pairs.proofs.MarkFacts.{AreMarkedUpTo, upto_none, upto_marked, upto_unmarked, upto_all}
use Rattle.relay_pairs.proofs.nodes.marked_nodes.Goals as goal
use Rattle.relay_pairs.proofs.nodes.marked_nodes.Goals.{then-is_marked+in_ok-push, else-is_marked}

pub loop-node-init : goal.loop-node-init
loop-node-init c = subst (λ (ns : List ℕ). AreMarkedUpTo c.args.marks.now ns 0) (sym c.new-nodes.ensures.items) (upto_none c.args.marks.now)

pub loop-node-preserved : goal.loop-node-preserved
loop-node-preserved c =
    let marks = c.args.marks.now in
    let nodes = c.loop-node.nodes.items in
    let i = c.loop-node.node in
    let Holds : List ℕ → Type 0 = λ ns. AreMarkedUpTo marks ns (i + 1) in
    elim c.if-is_marked.branch [
      | then-is_marked+in_ok-push w ↦ subst Holds (sym (ap (λ (v : _). v.items) w.nodes-is ∙ w.in_ok-push.ensures.items)) (upto_marked marks nodes i c.loop-node.invariant w.if-is_marked.true)
      | else-is_marked w ↦ subst Holds (sym (ap (λ (v : _). v.items) w.nodes-is)) (upto_unmarked marks nodes i c.loop-node.invariant w.if-is_marked.false)
    ]

pub returns : goal.returns
returns c = upto_all c.args.marks.now c.loop-node.nodes.items c.loop-node.node c.loop-node-test.false c.loop-node.invariant
