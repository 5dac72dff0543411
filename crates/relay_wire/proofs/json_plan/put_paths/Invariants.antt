use Rattle.std.proofs.Common.{◌≡◌, ◌++◌, map, take}
use Rattle.relay_wire.specs.Json.{with_commas}
use Rattle.relay_wire.specs.JsonPlan.{path_json}
use Rattle.relay_wire.proofs.json_plan.put_paths.Given as goal

abbrev pub invariant-loop-index : goal.invariant-loop-index
invariant-loop-index l = l.out.items ≡ l.initial.out.items ++ with_commas (map path_json (take l.index l.to))
