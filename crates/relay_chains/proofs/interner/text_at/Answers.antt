use Rattle.std.proofs.Common.{refl}
use Rattle.relay_chains.proofs.Texts.{text-found}
use Rattle.relay_chains.proofs.interner.text_at.Goals as goal

pub returns : goal.returns
returns c = text-found c.args.bytes.now c.args.ends.now c.args.number _ _ c.requires.below c.start_of.ensures refl
