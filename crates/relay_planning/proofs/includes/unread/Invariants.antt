use Rattle.std.proofs.Common.{take}
use Rattle.relay_planning.specs.Includes.{IsUnreadOf, AreReadings}
use Rattle.relay_planning.proofs.includes.unread.Given as goal

abbrev pub invariant-loop-include : goal.invariant-loop-include
invariant-loop-include l = AreReadings IsUnreadOf (take l.include-index l.includes) l.readings.items
