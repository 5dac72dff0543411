use Rattle.std.proofs.Common.{ℕ, ◌++◌, [], ◌∷◌, List, get_or, take, sym, subst}
use Rattle.std.proofs.lemmas.List.{take_more}
use Rattle.relay_explain.specs.declared.given_by.GivenBy.{GivenBy}
use Rattle.relay_explain.specs.declared.given_by.GivenBy.TheVariants as given
use Rattle.relay_planning.specs.Delivery.{directory_of}
use Rattle.aliasplan_explain.specs.ChainSteps.{IsGivenPast, given_at}
use Rattle.aliasplan_explain.proofs.TargetFacts.{node_has_target}
use Rattle.aliasplan_explain.proofs.WalkFacts.{past_more}
use Rattle.aliasplan_explain.proofs.walking.owner_along.Goals as goal

pub owner_past-owner-requires-clause-node : goal.owner_past-owner-requires-clause-node
owner_past-owner-requires-clause-node c =
    let job = c.args.grounds.now.job.now in
    node_has_target (directory_of job) job.sender job.recipients c.args.grounds.now.basis.now.graph c.requires.made.graph (get_or c.args.nodes.now c.loop-number.number-index 0) c.node.result.now c.node.ensures

pub loop-number-preserved : goal.loop-number-preserved
loop-number-preserved c =
    let job = c.args.grounds.now.job.now in
    let g = c.args.grounds.now.basis.now.graph in
    let nodes = c.args.nodes.now in
    let i = c.loop-number.number-index in
    let n : ℕ = get_or nodes i 0 in
    let later = given_at job c.owner_past-owner.result in
    let more = past_more job g given.Envelope (take i nodes) (given_at job c.loop-number.owner) c.loop-number.invariant n c.node.result.now c.node.ensures in
    let moved = subst (λ (b : GivenBy). IsGivenPast job g given.Envelope (take i nodes ++ n ∷ []) b) (sym c.owner_past-owner.ensures) more in
    subst (λ (ns : List ℕ). IsGivenPast job g given.Envelope ns later) (sym (take_more nodes i 0 c.loop-number-test.true)) moved
