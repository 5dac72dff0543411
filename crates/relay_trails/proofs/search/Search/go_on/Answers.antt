use Rattle.std.proofs.Common.{arith}
use Rattle.relay_trails.proofs.Going.{steps_fit}
use Rattle.relay_trails.proofs.search.Search.go_on.Goals as goal

pub loop-from-smaller : goal.loop-from-smaller
loop-from-smaller c =
    let m = c.loop-from.invariant.at in
    omega (arith, steps_fit c.args.graph.now c.args.pairs.now m.found c.loop-from.self.steps.items m.at.search)
