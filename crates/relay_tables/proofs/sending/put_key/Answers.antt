use Rattle.std.proofs.Common.{arith, length, ap}
use Rattle.relay_tables.proofs.LocalParts.{domain_within}
use Rattle.relay_tables.proofs.sending.put_key.Goals as goal

pub put_address-requires : goal.put_address-requires
put_address-requires c = omega (arith, domain_within c.in-Some.address c.local.ensures.valid, ap length c.domain.ensures)
