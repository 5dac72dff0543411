use Rattle.std.proofs.Common.{[], take}
use Rattle.relay_routes.specs.TableSteps.{AreNew}
use Rattle.relay_routes.proofs.transport_table.has_repeat.Given as goal

abbrev pub invariant-loop-number : goal.invariant-loop-number
invariant-loop-number l = AreNew [] (take l.number l.entries)
