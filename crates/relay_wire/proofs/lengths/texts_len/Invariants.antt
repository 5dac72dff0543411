use Rattle.std.proofs.Common.{◌≡◌, ◌+◌, length, sum_by, take}
use Rattle.relay_wire.specs.Lengths.{saturated}
use Rattle.relay_wire.proofs.lengths.texts_len.Given as goal

abbrev pub invariant-loop-text : goal.invariant-loop-text
invariant-loop-text l = l.len ≡ saturated (sum_by (λ t. l.each + length t) (take l.text-index l.texts))
