use Rattle.std.proofs.Common.{◌-◌, ◌^◌, ◌∙◌, ap, length, arith}
use Rattle.relay_wire.specs.Lengths.{saturated}
use Rattle.relay_wire.specs.PlanText.{numbered_texts, transaction_text}
use Rattle.relay_wire.proofs.Pieces.{numbered_all_from}
use Rattle.relay_wire.proofs.LengthSums.{numbered_length_step_from}
use Rattle.relay_wire.proofs.lengths.transactions_len.Goals as goal

pub loop-index-preserved : goal.loop-index-preserved
loop-index-preserved c =
    numbered_length_step_from transaction_text c.args.number c.args.transactions.now c.loop-index.index c.index-transactions-index.result (2 ^ 64 - 1) c.loop-index.len c.transaction_len.result c.saturating_add-len.result (omega arith) c.index-transactions-index.is c.loop-index.invariant c.transaction_len.ensures c.saturating_add-len.ensures

pub returns : goal.returns
returns c = c.loop-index.invariant ∙ ap (λ ts. saturated (length (numbered_texts transaction_text ts))) (numbered_all_from c.args.number c.args.transactions.now c.loop-index.index (omega arith))
