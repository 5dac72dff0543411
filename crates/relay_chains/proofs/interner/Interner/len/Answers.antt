use Rattle.std.proofs.Common.{arith}
use Rattle.relay_chains.proofs.Texts.{length-texts}
use Rattle.relay_chains.proofs.interner.Interner.len.Goals as goal

pub returns-clause-count : goal.returns-clause-count
returns-clause-count c = rw (← c.self.view_is) (omega (arith, c.len.ensures, length-texts c.self.inside.bytes.items 0 c.self.inside.ends.items))

pub returns-clause-within : goal.returns-clause-within
returns-clause-within c = rw (← c.self.view_is) (omega (arith, c.self.invariant.within, length-texts c.self.inside.bytes.items 0 c.self.inside.ends.items))
