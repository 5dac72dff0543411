use Rattle.std.proofs.Common.{◌≡◌, ◌++◌, map, take}
use Rattle.relay_wire.specs.Json.{json_string, with_commas}
use Rattle.relay_wire.proofs.json.put_strings.Given as goal

abbrev pub invariant-loop-index : goal.invariant-loop-index
invariant-loop-index l = l.out.items ≡ l.initial.out.items ++ with_commas (map json_string (take l.index l.texts))
