use Rattle.std.proofs.Common.{◌≡◌, ◌-◌, ◌^◌, take}
use Rattle.relay_rounds.proofs.shard.rebuilt.Given as goal

abbrev pub invariant-loop-number : goal.invariant-loop-number
invariant-loop-number l = record {
  keys : l.grown.keys ≡ take l.number l.chains.keys;
  wide : l.grown.limit ≡ 2 ^ 32 - 2;
}
