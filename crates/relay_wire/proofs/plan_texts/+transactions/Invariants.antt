use Rattle.std.proofs.Common.{◌+◌, ◌*◌}
use Rattle.relay_wire.proofs.plan_texts.+transactions.Given as goal

abbrev pub decreases-transactions_by : goal.decreases-transactions_by
decreases-transactions_by g l = 2 * l.threads

abbrev pub decreases-join+arg3 : goal.decreases-join+arg3
decreases-join+arg3 g l = 2 * l.others + 1
