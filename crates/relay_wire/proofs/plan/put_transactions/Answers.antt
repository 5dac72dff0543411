use Rattle.std.proofs.Common.{arith}
use Rattle.relay_wire.specs.PlanText.{transaction_text}
use Rattle.relay_wire.proofs.Pieces.{numbered_step_from}
use Rattle.relay_wire.proofs.plan.put_transactions.Goals as goal

pub loop-index-preserved : goal.loop-index-preserved
loop-index-preserved c =
    numbered_step_from transaction_text c.args.number c.args.out.now.items c.loop-index.out.items c.put_transaction.new.out.items c.args.transactions.now c.loop-index.index c.index-transactions-index.result (omega arith) c.index-transactions-index.is c.loop-index.invariant c.in_ok-put_transaction.ensures
