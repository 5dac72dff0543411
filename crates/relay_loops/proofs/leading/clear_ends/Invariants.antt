use Rattle.std.proofs.Common.{List, ℕ}
use Rattle.relay_loops.specs.Leading.{AreLoopsMarked}
use Rattle.relay_loops.specs.Loops.{IsClosedPart}
use Rattle.relay_loops.proofs.leading.clear_ends.Given as goal

abbrev pub invariant-loop-node : goal.invariant-loop-node
invariant-loop-node l = (part : List ℕ) → IsClosedPart l.graph part → AreLoopsMarked l.graph part l.initial.marks → AreLoopsMarked l.graph part l.marks
