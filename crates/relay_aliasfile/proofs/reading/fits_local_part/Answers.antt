use Rattle.std.proofs.Common.{arith}
use Rattle.std.proofs.lemmas.Bool.Decides.{nat_tests}
use Rattle.relay_text.proofs.Writing.{local_text_longer}
use Rattle.relay_aliasfile.proofs.reading.fits_local_part.Goals as goal

pub returns-else-local-le-MAX_LOCAL : goal.returns-else-local-le-MAX_LOCAL
returns-else-local-le-MAX_LOCAL c = let longer = local_text_longer c.args.local.now in grind (arith, nat_tests, longer)
