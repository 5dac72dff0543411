use Rattle.relay_pairs.proofs.Numbered.{leads}
use Rattle.relay_pairs.proofs.Counted.{more_by, at_most_by}
use Rattle.relay_pairs.proofs.laws.pairs_are_counted.Goals as goal

pub returns : goal.returns
returns c = record {
  more = λ d sender recipients g is n more. more_by d sender recipients g (leads d sender recipients g is) n more;
  at_most = λ d sender recipients g is n pairs all few. at_most_by d sender recipients g (leads d sender recipients g is) pairs all n few;
}
