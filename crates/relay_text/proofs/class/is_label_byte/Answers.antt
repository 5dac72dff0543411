use Rattle.std.proofs.Common.{refl, arith}
use Rattle.relay_text.specs.Runs.{part_byte}
use Rattle.relay_text.specs.declared.run.Part.TheVariants.{Domain}
use Rattle.relay_text.specs.declared.class.TheConstants.{CLASS}
use Rattle.relay_text.proofs.ByteTables.{agree_below, from_table}
use Rattle.relay_text.proofs.class.is_label_byte.Goals as goal

pub returns : goal.returns
unfolding agree_below
returns c = rw c.from.ensures (from_table CLASS 2 (part_byte Domain) c.args.byte (omega arith) refl)
