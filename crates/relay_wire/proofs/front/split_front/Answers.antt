use Rattle.std.proofs.Common.{rules}
use Rattle.relay_wire.proofs.Fronts.{front_split}
use Rattle.relay_wire.proofs.front.split_front.Goals as goal

pub returns-in-Some-clause-number : goal.returns-in-Some-clause-number
returns-in-Some-clause-number c = front_split _ c.in-Some.front.now c.args.text.now c.from_be_bytes.ensures (search rules)
