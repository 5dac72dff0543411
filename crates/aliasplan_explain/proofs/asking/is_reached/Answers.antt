use Rattle.std.proofs.Common.{List, sym, ◌∙◌, subst, arith}
use Rattle.relay_pairs.specs.declared.reached.Reached.{Reached}
use Rattle.relay_planning.specs.Reaching.{AreReachedPairs}
use Rattle.aliasplan_explain.proofs.NodeFacts.{found_at, not_found}
use Rattle.aliasplan_explain.proofs.AskingFacts.{node_reached, node_not_reached, node_unknown}
use Rattle.aliasplan_explain.proofs.asking.is_reached.Goals as goal

pub returns-in_default-clause-no : goal.returns-in_default-clause-no
returns-in_default-clause-no c =
    let w = c.args.grounds.now.basis.now in
    let node = c.args.node.now in
    λ e. node_unknown c.args.grounds.now.job.now w.graph w.pairs.items c.requires.reached node (not_found w.graph.nodes node (sym c.number_of.ensures ∙ c.in_default.is))

pub returns-then-pair-number-clause-yes : goal.returns-then-pair-number-clause-yes
returns-then-pair-number-clause-yes c =
    let job = c.args.grounds.now.job.now in
    let g = c.args.grounds.now.basis.now.graph in
    let node = c.args.node.now in
    let all = subst (λ (ps : List Reached). AreReachedPairs job g ps) (sym c.deref-pair-items.ensures.value) c.requires.reached in
    λ e. node_reached job g _ all node c.in-Some.number (found_at g.nodes node c.in-Some.number (sym c.number_of.ensures ∙ c.in-Some.is)) c.loop-pair.pair-index _ c.loop-pair-test.true c.if-pair-number.true

pub returns-clause-no : goal.returns-clause-no
returns-clause-no c =
    let job = c.args.grounds.now.job.now in
    let g = c.args.grounds.now.basis.now.graph in
    let node = c.args.node.now in
    let all = subst (λ (ps : List Reached). AreReachedPairs job g ps) (sym c.deref-pair-items.ensures.value) c.requires.reached in
    λ e.
    node_not_reached job g _ all node c.in-Some.number c.requires.graph (found_at g.nodes node c.in-Some.number (sym c.number_of.ensures ∙ c.in-Some.is))
    (λ i d inside has. c.loop-pair.invariant i d (omega arith) has)
