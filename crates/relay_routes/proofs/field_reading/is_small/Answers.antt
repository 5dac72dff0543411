use Rattle.std.proofs.Common.{refl, arith}
use Rattle.relay_text.proofs.ByteTables.{agree_below, from_table}
use Rattle.relay_routes.specs.FieldReadings.{is_small}
use Rattle.relay_routes.specs.declared.field_reading.TheConstants.{CLASS}
use Rattle.relay_routes.proofs.field_reading.is_small.Goals as goal

pub returns : goal.returns
unfolding agree_below
returns c = rw c.from.ensures (from_table CLASS 1 is_small c.args.byte (omega arith) refl)
