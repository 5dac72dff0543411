use Rattle.std.proofs.Common.{rules}
use Rattle.relay_wire.specs.Json.{json_byte}
use Rattle.relay_wire.proofs.json.put_byte.Goals as goal

pub returns-in-Some : goal.returns-in-Some
unfolding json_byte
returns-in-Some c = search rules

pub returns-then-byte-lt32 : goal.returns-then-byte-lt32
unfolding json_byte
returns-then-byte-lt32 c = search rules

pub returns : goal.returns
unfolding json_byte
returns c = search rules
