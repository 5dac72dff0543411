use Rattle.std.proofs.Common.{ℕ, List, ◌++◌, map, ap, arith, ◌∙◌}
use Rattle.relay_wire.specs.Json.{with_commas}
use Rattle.relay_wire.proofs.JsonPieces.{numbered_value_step}
use Rattle.relay_returns.specs.declared.block.Return.{Return}
use Rattle.relay_returns.specs.Returns.{block_json}
use Rattle.relay_returns.proofs.Blocks.{numbered_all}
use Rattle.relay_returns.proofs.json.put_numbered.Goals as goal

pub loop-index-preserved : goal.loop-index-preserved
loop-index-preserved c =
    numbered_value_step block_json c.args.out.now.items c.loop-index.out.items c.put_json_comma.new.out.items c.put_block.new.out.items c.args.returns.now c.loop-index.index c.index-returns-index.result (omega arith) c.index-returns-index.is c.loop-index.invariant c.in_ok-put_json_comma.ensures c.in_ok-put_block.ensures

pub returns : goal.returns
returns c =
    c.loop-index.invariant
    ∙ ap (λ (rs : List (ℕ × Return)). c.args.out.now.items ++ with_commas (map (λ r. block_json r.0 r.1) rs)) (numbered_all c.args.returns.now c.loop-index.index (omega arith))
