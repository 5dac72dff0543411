use Rattle.std.proofs.Common.{◌≡◌, ◌++◌, take}
use Rattle.relay_rounds.proofs.steps.Steps.append.Given as goal

abbrev pub invariant-loop-i : goal.invariant-loop-i
invariant-loop-i g l = l.next.items ≡ l.fn.next.items ++ take l.i (g.Self.Steps.next_keys l.self l.key)
