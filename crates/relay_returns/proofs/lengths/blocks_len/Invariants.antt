use Rattle.std.proofs.Common.{◌≡◌, length, take}
use Rattle.std.specs.List.{enumerate_from}
use Rattle.relay_wire.specs.Lengths.{saturated}
use Rattle.relay_returns.specs.Returns.{numbered_blocks}
use Rattle.relay_returns.proofs.lengths.blocks_len.Given as goal

abbrev pub invariant-loop-index : goal.invariant-loop-index
invariant-loop-index l = l.len ≡ saturated (length (numbered_blocks (take l.index (enumerate_from 1 l.returns))))
