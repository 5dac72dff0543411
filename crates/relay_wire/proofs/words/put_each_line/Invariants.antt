use Rattle.std.proofs.Common.{◌≡◌, ◌++◌, take}
use Rattle.relay_wire.specs.PlanText.{lines_of}
use Rattle.relay_wire.proofs.words.put_each_line.Given as goal

abbrev pub invariant-loop-text : goal.invariant-loop-text
invariant-loop-text l = l.out.items ≡ l.initial.out.items ++ lines_of (take l.text-index l.lines)
