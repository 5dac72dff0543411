use Rattle.std.proofs.Common.{◌+◌, ◌*◌}
use Rattle.relay_aliasfile.proofs.list_parts.+ListPart-read_by+fn-ListPart-read_by-join+arg3.Given as goal

abbrev pub decreases-ListPart::read_by : goal.decreases-ListPart::read_by
decreases-ListPart::read_by g l = 2 * l.workers

abbrev pub decreases-join+arg3 : goal.decreases-join+arg3
decreases-join+arg3 g l = 2 * l.rest + 1
