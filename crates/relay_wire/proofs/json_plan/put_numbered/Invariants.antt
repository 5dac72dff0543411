use Rattle.std.proofs.Common.{◌≡◌, ◌++◌, map, take}
use Rattle.std.specs.List.{enumerate_from}
use Rattle.relay_wire.specs.Json.{with_commas}
use Rattle.relay_wire.specs.JsonPlan.{transaction_json}
use Rattle.relay_wire.proofs.json_plan.put_numbered.Given as goal

abbrev pub invariant-loop-index : goal.invariant-loop-index
invariant-loop-index l = l.out.items ≡ l.initial.out.items ++ with_commas (map (λ t. transaction_json t.0 t.1) (take l.index (enumerate_from 1 l.transactions)))
