use Rattle.std.proofs.Common.{◌≡◌, List, [], Some, slice_get, sym, ◌∙◌, subst}
use Rattle.std.proofs.lemmas.List.Elements.{All-nil, All-same}
use Rattle.std.proofs.lemmas.Result.{IfOk-weaker}
use Rattle.relay_tables.proofs.GraphsFrom.{from_whole}
use Rattle.relay_trails.specs.declared.found.Found.{Found}
use Rattle.relay_trails.specs.Chains.{AreBestBy}
use Rattle.relay_trails.specs.Trails.{AreBestTrails, HasNodes}
use Rattle.relay_planning.specs.Delivery.{directory_of}
use Rattle.aliasplan_explain.proofs.NodeFacts.{found_at, not_found}
use Rattle.aliasplan_explain.proofs.AnswerFacts.{none_best}
use Rattle.aliasplan_explain.proofs.sought.found_at.Goals as goal

pub returns-in-Some-clause-best : goal.returns-in-Some-clause-best
returns-in-Some-clause-best c =
    let job = c.args.grounds.now.job.now in
    let g = c.args.grounds.now.basis.now.graph in
    let node = c.args.node.now in
    let at : slice_get g.nodes c.in-Some.number ≡ Some node = found_at g.nodes node c.in-Some.number (sym c.number_of.ensures ∙ c.in-Some.is) in
    IfOk-weaker c.best_trails.result (λ found. AreBestTrails g c.in-Some.number found.items) _
    (λ found all. c.trails_by_numbers.ensures.answers (directory_of job) job.sender job.recipients g (from_whole (directory_of job) job.sender job.recipients g c.requires.made.graph) c.in-Some.number node at found.items all)
    c.best_trails.ensures.best

pub returns-in-None-clause-best : goal.returns-in-None-clause-best
returns-in-None-clause-best c =
    let job = c.args.grounds.now.job.now in
    let g = c.args.grounds.now.basis.now.graph in
    let node = c.args.node.now in
    let none = none_best job g node c.args.grounds.now.basis.now.pairs.items c.requires.made.reached (not_found g.nodes node (sym c.number_of.ensures ∙ c.in-None.is)) in
    subst (λ (found : List Found). AreBestBy (directory_of job) job.sender job.recipients g node found) (sym c.new.ensures.items) none

pub returns-in-None-clause-nodes : goal.returns-in-None-clause-nodes
returns-in-None-clause-nodes c = let with_nodes : Found → Type 0 = HasNodes c.args.grounds.now.basis.now.graph in All-same with_nodes _ [] c.new.ensures.items (All-nil with_nodes)
