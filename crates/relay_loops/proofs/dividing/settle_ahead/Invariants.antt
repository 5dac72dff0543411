use Rattle.std.proofs.Common.{take}
use Rattle.relay_loops.specs.Places.{settled, IsChangedAt}
use Rattle.relay_loops.proofs.dividing.settle_ahead.Given as goal

abbrev pub invariant-loop-node : goal.invariant-loop-node
invariant-loop-node l = IsChangedAt settled (take l.node-index l.ahead) l.initial.places l.places
