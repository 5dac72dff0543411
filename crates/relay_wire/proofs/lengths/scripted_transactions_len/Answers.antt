use Rattle.std.proofs.Common.{◌-◌, ◌^◌, ◌∙◌, ap, length, arith}
use Rattle.relay_wire.specs.Lengths.{saturated}
use Rattle.relay_wire.specs.PlanText.{numbered_texts, scripted_text}
use Rattle.relay_wire.proofs.Pieces.{numbered_all}
use Rattle.relay_wire.proofs.LengthSums.{numbered_length_step}
use Rattle.relay_wire.proofs.lengths.scripted_transactions_len.Goals as goal

pub loop-index-preserved : goal.loop-index-preserved
loop-index-preserved c =
    numbered_length_step (scripted_text c.args.hostname.now) c.args.transactions.now c.loop-index.index c.index-transactions-index.result (2 ^ 64 - 1) c.loop-index.len c.scripted_len.result c.saturating_add-len.result (omega arith) c.index-transactions-index.is c.loop-index.invariant c.scripted_len.ensures c.saturating_add-len.ensures

pub returns : goal.returns
returns c = c.loop-index.invariant ∙ ap (λ ts. saturated (length (numbered_texts (scripted_text c.args.hostname.now) ts))) (numbered_all c.args.transactions.now c.loop-index.index (omega arith))
