use Rattle.relay_planning.specs.Delivery.{directory_of}
use Rattle.relay_planning.proofs.ReachFacts.{are_reached}
use Rattle.relay_planning.proofs.planning.pairs_of.Goals as goal

pub returns-in-Ok-clause-reached : goal.returns-in-Ok-clause-reached
returns-in-Ok-clause-reached g c =
    let job = c.args.job.now in
    let graph = c.args.graph.now in
    are_reached job graph (c.pairs_by_numbers.ensures (directory_of job) job.sender job.recipients graph c.requires.graph) c.in-Ok.pairs.items c.in-Ok.ensures.pairs c.in-Ok.ensures.in_graph

pub returns-in-Ok-clause-at_most : goal.returns-in-Ok-clause-at_most
returns-in-Ok-clause-at_most g c =
    let job = c.args.job.now in
    c.pairs_are_counted.ensures.at_most (directory_of job) job.sender job.recipients c.args.graph.now c.requires.graph c.args.crew.now.limits.pairs c.in-Ok.pairs.items c.in-Ok.ensures.pairs c.in-Ok.ensures.within
