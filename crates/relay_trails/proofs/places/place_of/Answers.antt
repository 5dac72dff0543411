use Rattle.std.proofs.Common.{◌<◌, ℕ, All, length, subst}
use Rattle.relay_pairs.specs.declared.reached.Reached.{Reached}
use Rattle.relay_trails.proofs.Placing.{at_its_node}
use Rattle.relay_trails.proofs.places.place_of.Goals as goal

pub returns-then-are_all_there : goal.returns-then-are_all_there
returns-then-are_all_there c =
    let pairs = c.args.pairs.now in
    let nodes : ℕ = length c.args.graph.now.nodes in
    let all = c.are_all_there.ensures c.if-are_all_there.true in
    at_its_node pairs c.requires.ascending c.requires.nodes c.args.pair c.requires.listed nodes
    (subst (λ (n : ℕ). All (λ (p : Reached). (p.sender < n) × (p.node < nodes)) pairs) all.0 c.requires.in_graph) all.1
