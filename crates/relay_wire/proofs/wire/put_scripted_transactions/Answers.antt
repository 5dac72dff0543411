use Rattle.std.proofs.Common.{arith}
use Rattle.relay_wire.specs.PlanText.{scripted_text}
use Rattle.relay_wire.proofs.Pieces.{numbered_step}
use Rattle.relay_wire.proofs.wire.put_scripted_transactions.Goals as goal

pub loop-index-preserved : goal.loop-index-preserved
loop-index-preserved c =
    numbered_step (scripted_text c.args.hostname.now) c.args.out.now.items c.loop-index.out.items c.put_scripted.new.out.items c.args.transactions.now c.loop-index.index c.index-transactions-index.result (omega arith) c.index-transactions-index.is c.loop-index.invariant c.in_ok-put_scripted.ensures
