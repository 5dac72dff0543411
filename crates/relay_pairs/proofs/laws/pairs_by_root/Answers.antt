use Rattle.std.proofs.Common.{[], ◌∷◌, length, arith}
use Rattle.relay_pairs.specs.Pairs.{with_root}
use Rattle.relay_pairs.proofs.Numbered.{leads_from, to_numbers, from_numbers}
use Rattle.relay_pairs.proofs.Counted.{more_by, at_least_by, at_most_by}
use Rattle.relay_pairs.proofs.Rooted.{by_some}
use Rattle.relay_pairs.proofs.laws.pairs_by_root.Goals as goal

pub returns : goal.returns
returns c = record {
  some = by_some;
  numbers = λ d sender recipients g is k recipient root at pair.
      let l = leads_from d sender recipients g is k recipient root at in
      (to_numbers d sender (recipient ∷ []) (with_root g root) l pair, from_numbers d sender (recipient ∷ []) (with_root g root) l pair);
  more = λ d sender recipients g is k recipient root at. more_by d sender (recipient ∷ []) (with_root g root) (leads_from d sender recipients g is k recipient root at);
  at_least = λ d sender recipients g is k recipient root at. at_least_by d sender (recipient ∷ []) (with_root g root) (leads_from d sender recipients g is k recipient root at);
  at_most = λ d sender recipients g is k recipient root at pairs all. at_most_by d sender (recipient ∷ []) (with_root g root) (leads_from d sender recipients g is k recipient root at) pairs all (length pairs) (omega arith);
}
