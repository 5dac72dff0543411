use Rattle.std.proofs.Common.{length}
use Rattle.aliasplan_command.proofs.explaining.explain_unknown_keys.Given as goal

abbrev pub decreases-loop-line : goal.decreases-loop-line
decreases-loop-line g l = length l.place.rest.now
