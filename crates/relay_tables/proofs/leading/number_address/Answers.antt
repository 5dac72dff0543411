use Rattle.relay_tables.proofs.LocalParts.{is_local_part-address}
use Rattle.relay_tables.proofs.leading.number_address.Goals as goal

pub number_name-requires-clause-local : goal.number_name-requires-clause-local
number_name-requires-clause-local c = rw c.local-local.ensures.value (is_local_part-address c.args.address.now c.local-local.ensures.valid)
