use Rattle.std.proofs.Common.{arith}
use Rattle.relay_rings.proofs.Ascending.{ascending_from_climbs}
use Rattle.round_tests.proofs.rings.are_ascending.Goals as goal

pub returns : goal.returns
returns c = λ _. ascending_from_climbs c.args.placed.now (λ k small b. c.loop-i.invariant k (omega arith) b)
