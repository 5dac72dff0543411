use Rattle.std.proofs.Common.{take}
use Rattle.relay_loops.specs.Searches.{AreTaken}
use Rattle.relay_loops.proofs.spreading.take_all.Given as goal

abbrev pub invariant-loop-node : goal.invariant-loop-node
invariant-loop-node l = AreTaken l.direction (take l.node-index l.nodes) l.initial.places l.places l.initial.found.items l.found.items
