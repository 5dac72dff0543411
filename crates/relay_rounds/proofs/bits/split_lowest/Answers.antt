use Rattle.relay_rounds.proofs.Words.{lowest_first}
use Rattle.relay_rounds.proofs.bits.split_lowest.Goals as goal

pub returns-clause-bits : goal.returns-clause-bits
returns-clause-bits c = rw c.from-bit.ensures (lowest_first c.args.word c.requires c.ranges.word.fits)
