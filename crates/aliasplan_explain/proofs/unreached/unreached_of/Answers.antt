use Rattle.std.proofs.Common.{sym, ◌∙◌}
use Rattle.std.proofs.lemmas.Result.{IfOk-weaker}
use Rattle.aliasplan_explain.proofs.NodeFacts.{found_at, not_found}
use Rattle.aliasplan_explain.proofs.UnreachedFacts.{unreached_none}
use Rattle.aliasplan_explain.proofs.unreached.unreached_of.Goals as goal

pub returns-in-Some : goal.returns-in-Some
returns-in-Some c =
    let nodes = c.args.grounds.now.basis.now.graph.nodes in
    let node = c.args.node.now in
    IfOk-weaker c.listed_for.result _ _ (λ listed all. all node (found_at nodes node c.in-Some.number (sym c.number_of.ensures ∙ c.in-Some.is))) c.listed_for.ensures

pub returns-in-None : goal.returns-in-None
returns-in-None c =
    let g = c.args.grounds.now.basis.now.graph in
    let node = c.args.node.now in
    c.of.ensures ∙ c.new.ensures.items ∙ sym (unreached_none c.args.grounds.now.job.now g c.requires.graph node (not_found g.nodes node (sym c.number_of.ensures ∙ c.in-None.is)))
