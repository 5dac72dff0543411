use Rattle.std.proofs.Common.{◌≡◌, map}
use Rattle.aliasplan_explain.specs.Decisions.{record_at}
use Rattle.aliasplan_explain.proofs.deciding.records_of_name.Given as goal

abbrev pub invariant-loop-line : goal.invariant-loop-line
invariant-loop-line l = l.records.items ≡ map record_at l.yielded
