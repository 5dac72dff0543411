use Rattle.std.proofs.Common.{◌≡◌, ◌+◌, ◌++◌, length}
use Rattle.std.specs.Prelude.{map}
use Rattle.relay_rounds.specs.Bits.{bits_of}
use Rattle.relay_rounds.proofs.bits.push_bits.Given as goal

abbrev pub invariant-loop-left : goal.invariant-loop-left
invariant-loop-left l = l.keys.items ++ map (λ bit. l.base + bit) (bits_of l.left) ≡ l.fn.keys.items ++ map (λ bit. l.base + bit) (bits_of l.word)

abbrev pub decreases-loop-left : goal.decreases-loop-left
decreases-loop-left l = length (bits_of l.left)
