use Rattle.std.proofs.Common.{arith, ap, ◌++◌, ◌∙◌}
use Rattle.relay_returns.specs.Returns.{numbered_blocks}
use Rattle.relay_returns.proofs.Blocks.{numbered_step, numbered_all}
use Rattle.relay_returns.proofs.words.put_blocks.Goals as goal

pub loop-index-preserved : goal.loop-index-preserved
loop-index-preserved c =
    numbered_step c.args.out.now.items c.loop-index.out.items c.put_block.new.out.items c.args.returns.now c.loop-index.index c.index-returns-index.result (omega arith) c.index-returns-index.is c.loop-index.invariant c.in_ok-put_block.ensures

pub returns : goal.returns
returns c = c.loop-index.invariant ∙ ap (λ rs. c.args.out.now.items ++ numbered_blocks rs) (numbered_all c.args.returns.now c.loop-index.index (omega arith))
