use Rattle.std.proofs.Common.{◌≡◌, ◌++◌, take, map}
use Rattle.relay_wire.specs.PlanText.{lines_of, to_line}
use Rattle.relay_wire.proofs.plan.put_recipients.Given as goal

abbrev pub invariant-loop-address : goal.invariant-loop-address
invariant-loop-address l = l.out.items ≡ l.initial.out.items ++ lines_of (map to_line (take l.address-index l.to))
