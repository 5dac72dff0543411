use Rattle.std.proofs.Common.{◌≡◌, ◌++◌, take, map}
use Rattle.relay_wire.specs.PlanText.{lines_of}
use Rattle.relay_explain.specs.ExplanationText.{unreached_line}
use Rattle.relay_explain.proofs.text.put_unreached.Given as goal

abbrev pub invariant-loop-listed : goal.invariant-loop-listed
invariant-loop-listed l = l.out.items ≡ l.initial.out.items ++ lines_of (map unreached_line (take l.listed-index l.unreached))
