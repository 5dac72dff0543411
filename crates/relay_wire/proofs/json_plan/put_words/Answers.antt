use Rattle.std.proofs.Common.{arith}
use Rattle.relay_wire.specs.JsonPlan.{finding_json}
use Rattle.relay_wire.proofs.JsonPieces.{values_step}
use Rattle.relay_wire.proofs.json_plan.put_words.Goals as goal

pub loop-index-preserved : goal.loop-index-preserved
loop-index-preserved c =
    values_step finding_json c.args.out.now.items c.loop-index.out.items c.put_json_comma.new.out.items c.put_json_string.new.out.items c.args.findings.now c.loop-index.index c.index-findings-index.result (omega arith) c.index-findings-index.is c.loop-index.invariant c.in_ok-put_json_comma.ensures (rw (c.words_of.ensures, c.as_bytes.ensures) at c.in_ok-put_json_string.ensures)
