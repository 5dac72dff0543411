use Rattle.std.proofs.Common.{ℕ, List, ◌++◌, map, ap, arith, ◌∙◌}
use Rattle.relay_wire.specs.Json.{with_commas}
use Rattle.relay_wire.specs.JsonPlan.{transaction_json}
use Rattle.relay_wire.specs.declared.plan.Planned.{Planned}
use Rattle.relay_wire.proofs.JsonPieces.{numbered_value_step}
use Rattle.relay_wire.proofs.Pieces.{numbered_all}
use Rattle.relay_wire.proofs.json_plan.put_numbered.Goals as goal

pub loop-index-preserved : goal.loop-index-preserved
loop-index-preserved c =
    numbered_value_step transaction_json c.args.out.now.items c.loop-index.out.items c.put_json_comma.new.out.items c.put_transaction.new.out.items c.args.transactions.now c.loop-index.index c.index-transactions-index.result (omega arith) c.index-transactions-index.is c.loop-index.invariant c.in_ok-put_json_comma.ensures c.in_ok-put_transaction.ensures

pub returns : goal.returns
returns c =
    c.loop-index.invariant
    ∙ ap (λ (ts : List (ℕ × Planned)). c.args.out.now.items ++ with_commas (map (λ t. transaction_json t.0 t.1) ts)) (numbered_all c.args.transactions.now c.loop-index.index (omega arith))
