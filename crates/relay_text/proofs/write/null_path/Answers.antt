use Rattle.std.proofs.Common.{refl}
use Rattle.relay_text.specs.Addresses.{path_of}
use Rattle.relay_text.proofs.write.null_path.Goals as goal

pub returns : goal.returns
unfolding path_of
returns c = λ origin. refl
