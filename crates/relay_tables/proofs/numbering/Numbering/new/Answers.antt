use Rattle.std.proofs.Common.{arith}
use Rattle.relay_tables.proofs.Numbers.{numbered_none}
use Rattle.relay_tables.proofs.numbering.Numbering.new.Goals as goal

pub invariant_of-result : goal.invariant_of-result
invariant_of-result c = rw c.in_ok-hashes.ensures (numbered_none c.args.entries.aliases c.args.entries.includes c.args.limit c.args.key c.in_ok-nodes.nodes.items c.in_ok-nodes.ensures (omega arith) c.requires.limit)
