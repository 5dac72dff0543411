use Rattle.std.proofs.Common.{arith}
use Rattle.relay_aliasfile.proofs.Outside.{closes_at_end}
use Rattle.relay_aliasfile.proofs.quotes.closes_quotes.Goals as goal

pub returns : goal.returns
returns c = closes_at_end c.loop-byte.state c.loop-byte.byte-index c.args.text.now (omega arith) c.loop-byte.invariant
