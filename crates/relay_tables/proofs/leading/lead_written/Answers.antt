use Rattle.relay_tables.proofs.LocalParts.{is_local_part-address}
use Rattle.relay_tables.proofs.leading.lead_written.Goals as goal

pub lead_named-requires-clause-local : goal.lead_named-requires-clause-local
lead_named-requires-clause-local c = rw c.local.ensures.value (is_local_part-address c.args.address.now c.local.ensures.valid)
