use Rattle.std.proofs.Common.{◌≡◌, ◌++◌, take}
use Rattle.relay_rounds.proofs.shard.Shard.push_blocks.Given as goal

abbrev pub invariant-loop-at : goal.invariant-loop-at
invariant-loop-at l = l.blocks.items ≡ l.fn.blocks.items ++ take l.at l.self
