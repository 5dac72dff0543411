use Rattle.relay_rounds.proofs.Words.{set_there, set_elsewhere}
use Rattle.relay_rounds.proofs.bits.with_bit.Goals as goal

pub returns-clause-set : goal.returns-clause-set
returns-clause-set c = set_there c.args.word c.args.bit c.requires

pub returns-clause-others : goal.returns-clause-others
returns-clause-others c i apart = set_elsewhere c.args.word c.args.bit i c.requires apart
