use Rattle.std.proofs.Common.{◌+◌, ◌*◌}
use Rattle.relay_wire.proofs.plan_texts.+lines.Given as goal

abbrev pub decreases-lines_by : goal.decreases-lines_by
decreases-lines_by g l = 2 * l.threads

abbrev pub decreases-join+arg3 : goal.decreases-join+arg3
decreases-join+arg3 g l = 2 * l.others + 1
