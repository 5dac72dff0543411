use Rattle.std.proofs.Common.{◌≡◌, ◌++◌, take, map}
use Rattle.relay_wire.specs.PlanText.{lines_of}
use Rattle.relay_explain.specs.ExplanationText.{record_line}
use Rattle.relay_explain.proofs.decision.put_records.Given as goal

abbrev pub invariant-loop-record : goal.invariant-loop-record
invariant-loop-record l = l.out.items ≡ l.initial.out.items ++ lines_of (map record_line (take l.record-index l.records))
