use Rattle.std.proofs.Common.{ℕ, ◌<◌, ◌≤◌, ap, sym, subst, take, List, length, arith}
use Rattle.std.proofs.lemmas.List.{length-take-le}
use Rattle.std.proofs.lemmas.List.Elements.{All-same, All-take}
use Rattle.std.proofs.lemmas.Result.{IfOk-weaker}
use Rattle.relay_explain.specs.declared.given_by.GivenBy.{GivenBy}
use Rattle.relay_explain.specs.declared.given_by.GivenBy.TheVariants as givers
use Rattle.aliasplan_explain.specs.ChainSteps.{IsGivenPast, given_at}
use Rattle.aliasplan_explain.proofs.WalkFacts.{all_inside, one_more}
use Rattle.aliasplan_explain.proofs.lines.giver_of.Goals as goal

pub slice_bounds-owner_along-end : goal.slice_bounds-owner_along-end
slice_bounds-owner_along-end c =
    let items = c.as_slice-items.result.now in
    let nodes = c.as_slice-nodes.result.now in
    let long = one_more c.args.grounds.now.job.now c.args.grounds.now.basis.now.graph c.requires.made.graph c.args.found.now c.requires.nodes in
    let fits : length items ≤ length nodes = omega (arith, long, ap length c.as_slice-nodes.ensures.value, ap length c.as_slice-items.ensures.value) in
    sym (length-take-le (length items) nodes fits)

pub owner_along-owner-requires-clause-nodes : goal.owner_along-owner-requires-clause-nodes
owner_along-owner-requires-clause-nodes c =
    let graph = c.args.grounds.now.basis.now.graph in
    let nodes = c.as_slice-nodes.result.now in
    let inside : ℕ → Type 0 = λ n. n < length graph.nodes in
    let all = All-same inside nodes c.args.found.now.nodes.items c.as_slice-nodes.ensures.value (all_inside c.args.grounds.now.job.now graph c.requires.made.graph c.args.found.now c.requires.nodes) in
    All-take inside (length c.as_slice-items.result.now) nodes all

pub returns : goal.returns
returns c =
    let job = c.args.grounds.now.job.now in
    let graph = c.args.grounds.now.basis.now.graph in
    let found = c.args.found.now in
    let owner = c.owner_along-owner.result in
    let past =
    subst (λ (ns : List ℕ). IsGivenPast job graph givers.Envelope (take (length found.items.items) ns) (given_at job owner)) c.as_slice-nodes.ensures.value
    (subst (λ (is : List ℕ). IsGivenPast job graph givers.Envelope (take (length is) c.as_slice-nodes.result.now) (given_at job owner)) c.as_slice-items.ensures.value c.owner_along-owner.ensures) in
    IfOk-weaker c.given_by.result _ _
    (λ given is. subst (λ (b : GivenBy). IsGivenPast job graph givers.Envelope (take (length found.items.items) found.nodes.items) b) (sym is) past)
    c.given_by.ensures
