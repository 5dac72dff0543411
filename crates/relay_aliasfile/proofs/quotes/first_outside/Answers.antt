use Rattle.std.proofs.Common.{arith}
use Rattle.relay_aliasfile.proofs.Outside.{first_found, first_none}
use Rattle.relay_aliasfile.proofs.quotes.first_outside.Goals as goal

pub returns-then-state-clause-place : goal.returns-then-state-clause-place
returns-then-state-clause-place c = first_found c.args.wanted c.loop-place.state c.loop-place.place c.args.text.now (omega arith) c.if-byte-wanted.true c.if-state.true c.loop-place.invariant

pub returns-clause-place : goal.returns-clause-place
returns-clause-place c = first_none c.args.wanted c.loop-place.state c.loop-place.place c.args.text.now (omega arith) c.loop-place.invariant
