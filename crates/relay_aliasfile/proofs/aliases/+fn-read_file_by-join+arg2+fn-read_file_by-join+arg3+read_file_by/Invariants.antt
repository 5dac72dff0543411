use Rattle.std.proofs.Common.{◌+◌, ◌*◌}
use Rattle.relay_aliasfile.proofs.aliases.+fn-read_file_by-join+arg2+fn-read_file_by-join+arg3+read_file_by.Given as goal

abbrev pub decreases-join+arg2 : goal.decreases-join+arg2
decreases-join+arg2 g l = 2 * l.share + 1

abbrev pub decreases-join+arg3 : goal.decreases-join+arg3
decreases-join+arg3 g l = 2 * l.rest + 1

abbrev pub decreases-read_file_by : goal.decreases-read_file_by
decreases-read_file_by g l = 2 * l.workers
