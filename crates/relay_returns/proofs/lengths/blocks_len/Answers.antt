use Rattle.std.proofs.Common.{◌-◌, ◌^◌, ◌∙◌, ap, length, arith}
use Rattle.relay_wire.specs.Lengths.{saturated}
use Rattle.relay_returns.specs.Returns.{numbered_blocks}
use Rattle.relay_returns.proofs.Blocks.{numbered_all}
use Rattle.relay_returns.proofs.BlockLengths.{blocks_length_step}
use Rattle.relay_returns.proofs.lengths.blocks_len.Goals as goal

pub loop-index-preserved : goal.loop-index-preserved
loop-index-preserved c =
    blocks_length_step c.args.returns.now c.loop-index.index c.index-returns-index.result (2 ^ 64 - 1) c.loop-index.len c.block_len.result c.saturating_add-len.result (omega arith) c.index-returns-index.is c.loop-index.invariant c.block_len.ensures c.saturating_add-len.ensures

pub returns : goal.returns
returns c = c.loop-index.invariant ∙ ap (λ rs. saturated (length (numbered_blocks rs))) (numbered_all c.args.returns.now c.loop-index.index (omega arith))
