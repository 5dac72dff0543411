use Rattle.std.proofs.Common.{◌≡◌, ◌++◌, take}
use Rattle.std.specs.List.{enumerate_from}
use Rattle.relay_returns.specs.Returns.{numbered_blocks}
use Rattle.relay_returns.proofs.words.put_blocks.Given as goal

abbrev pub invariant-loop-index : goal.invariant-loop-index
invariant-loop-index l = l.out.items ≡ l.initial.out.items ++ numbered_blocks (take l.index (enumerate_from 1 l.returns))
