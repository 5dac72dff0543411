use Rattle.std.proofs.Common.{refl, arith}
use Rattle.relay_text.specs.Addresses.{is_atext}
use Rattle.relay_text.specs.declared.class.TheConstants.{CLASS}
use Rattle.relay_text.proofs.ByteTables.{agree_below, from_table}
use Rattle.relay_text.proofs.class.is_atext.Goals as goal

pub returns : goal.returns
unfolding agree_below
returns c = rw c.from.ensures (from_table CLASS 1 is_atext c.args.byte (omega arith) refl)
