use Rattle.relay_pairs.proofs.Numbered.{leads, to_numbers, from_numbers}
use Rattle.relay_pairs.proofs.laws.pairs_by_numbers.Goals as goal

pub returns : goal.returns
returns c = λ d sender recipients g is pair. let l = leads d sender recipients g is in (to_numbers d sender recipients g l pair, from_numbers d sender recipients g l pair)
