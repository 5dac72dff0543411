use Rattle.std.proofs.Common.{arith}
use Rattle.relay_wire.specs.JsonPlan.{path_json}
use Rattle.relay_wire.proofs.JsonPieces.{values_step}
use Rattle.relay_wire.proofs.json_plan.put_paths.Goals as goal

pub loop-index-preserved : goal.loop-index-preserved
loop-index-preserved c =
    values_step path_json c.args.out.now.items c.loop-index.out.items c.put_json_comma.new.out.items c.put_json_path.new.out.items c.args.to.now c.loop-index.index c.index-to-index.result (omega arith) c.index-to-index.is c.loop-index.invariant c.in_ok-put_json_comma.ensures c.in_ok-put_json_path.ensures
