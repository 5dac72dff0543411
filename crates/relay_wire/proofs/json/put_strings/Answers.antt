use Rattle.std.proofs.Common.{arith}
use Rattle.relay_wire.specs.Json.{json_string}
use Rattle.relay_wire.proofs.JsonPieces.{values_step}
use Rattle.relay_wire.proofs.json.put_strings.Goals as goal

pub loop-index-preserved : goal.loop-index-preserved
loop-index-preserved c =
    values_step json_string c.args.out.now.items c.loop-index.out.items c.put_json_comma.new.out.items c.put_json_string.new.out.items c.args.texts.now c.loop-index.index c.index-texts-index.result (omega arith) c.index-texts-index.is c.loop-index.invariant c.in_ok-put_json_comma.ensures (rw c.as_bytes.ensures at c.in_ok-put_json_string.ensures)
