use Rattle.std.proofs.Common.{refl}
use Rattle.relay_chains.specs.TextHash.{folded}
use Rattle.relay_chains.proofs.text_hash.mixed.Goals as goal

pub returns : goal.returns
unfolding folded
returns c = refl
