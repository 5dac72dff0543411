use Rattle.std.proofs.Common.{arith}
use Rattle.relay_claims.proofs.Halves.{opens}
use Rattle.relay_claims.proofs.round.Round.open_of.Goals as goal

pub of_words-requires : goal.of_words-requires
of_words-requires c = opens c.args.keys.now c.args.heads c.args.cut (omega arith) (omega arith) c.args.zeros.now c.requires.zeros
