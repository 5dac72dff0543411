use Rattle.std.proofs.Common.{◌≡◌, map, take}
use Rattle.relay_pairs.specs.Pairs.{pair_at}
use Rattle.relay_pairs.proofs.reaching.pairs_of.Given as goal

abbrev pub invariant-loop-key : goal.invariant-loop-key
invariant-loop-key l = l.pairs.items ≡ map pair_at (take l.key-index l.keys)
