use Rattle.std.proofs.Common.{◌≡◌, ◌++◌, flat_map, take}
use Rattle.relay_wire.specs.Json.{json_byte}
use Rattle.relay_wire.proofs.json.put_bytes.Given as goal

abbrev pub invariant-loop-byte : goal.invariant-loop-byte
invariant-loop-byte l = l.out.items ≡ l.initial.out.items ++ flat_map json_byte (take l.byte-index l.text)
