use Rattle.std.proofs.Common.{◌+◌, ◌*◌}
use Rattle.relay_wire.proofs.shared_front.+fronts.Given as goal

abbrev pub decreases-front_by : goal.decreases-front_by
decreases-front_by g l = 2 * l.threads

abbrev pub decreases-join+arg3 : goal.decreases-join+arg3
decreases-join+arg3 g l = 2 * l.others + 1
