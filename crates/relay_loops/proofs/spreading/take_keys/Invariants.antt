use Rattle.std.proofs.Common.{take}
use Rattle.relay_loops.specs.Searches.{AreTaken}
use Rattle.relay_loops.proofs.spreading.take_keys.Given as goal

abbrev pub invariant-loop-key : goal.invariant-loop-key
invariant-loop-key l = AreTaken l.direction (take l.key-index l.keys) l.initial.places l.places l.initial.found.items l.found.items
