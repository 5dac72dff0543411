use Rattle.std.proofs.Common.{◌≡◌, ◌+◌, length, sum_by, take}
use Rattle.relay_wire.specs.Lengths.{saturated}
use Rattle.relay_wire.proofs.plan_texts.lines_len.Given as goal

abbrev pub invariant-loop-line : goal.invariant-loop-line
invariant-loop-line l = l.len ≡ saturated (sum_by (λ line. 1 + length line.now) (take l.line-index l.lines))
