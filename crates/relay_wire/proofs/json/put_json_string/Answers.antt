use Rattle.std.proofs.Common.{rules, append_assoc}
use Rattle.relay_wire.specs.Json.{json_string}
use Rattle.relay_wire.proofs.json.put_json_string.Goals as goal

pub returns : goal.returns
unfolding json_string
returns c = search (rules, append_assoc)
