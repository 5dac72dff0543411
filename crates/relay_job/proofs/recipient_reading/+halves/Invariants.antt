use Rattle.std.proofs.Common.{◌+◌, ◌*◌}
use Rattle.relay_job.proofs.recipient_reading.+halves.Given as goal

abbrev pub decreases-read_halves : goal.decreases-read_halves
decreases-read_halves g l = 2 * l.workers

abbrev pub decreases-read_back : goal.decreases-read_back
decreases-read_back g l = 2 * l.share + 1

abbrev pub decreases-read_front : goal.decreases-read_front
decreases-read_front g l = 2 * l.own + 1
