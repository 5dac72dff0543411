use Rattle.std.proofs.Common.{length}
use Rattle.aliasplan_command.proofs.explaining.begins_entry.Given as goal

abbrev pub decreases-loop-line : goal.decreases-loop-line
decreases-loop-line l = length l.place.rest.now
