use Rattle.std.proofs.Common.{◌≡◌, ◌++◌, take}
use Rattle.relay_wire.specs.PlanText.{lines_of}
use Rattle.relay_wire.specs.PlanTexts.{bare}
use Rattle.relay_wire.proofs.plan_texts.put_bare_lines.Given as goal

abbrev pub invariant-loop-line : goal.invariant-loop-line
invariant-loop-line l = l.out.items ≡ l.initial.out.items ++ lines_of (bare (take l.line-index l.lines))
