use Rattle.relay_envelopes.proofs.JoiningFacts.{front-ends, front-unnamed, sections-plain}
use Rattle.relay_envelopes.proofs.joining.sections_are_joined.Goals as goal

pub returns : goal.returns
returns c = record { front = front-ends; unnamed = λ text unbroken. front-unnamed text; sections = sections-plain }
