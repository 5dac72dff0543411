use Rattle.std.proofs.Common.{◌≡◌, ◌+◌, ◌-◌, ◌^◌, decimal, length, sum_by, ap, ◌∙◌, arith}
use Rattle.relay_wire.specs.Lengths.{saturated}
use Rattle.relay_returns.specs.Returns.{block_text}
use Rattle.relay_returns.proofs.BlockLengths.{sum_three, block_length}
use Rattle.relay_returns.proofs.lengths.block_len.Goals as goal

pub returns : goal.returns
returns c =
    let lines = rw c.as_slice.ensures at c.texts_len.ensures in
    let from = rw c.as_ref.ensures.value at c.path_len.ensures in
    let digits : length c.format.result.now ≡ length (decimal c.args.number) = ap length c.format.ensures.text in
    let total : 14 + length c.format.result.now + c.path_len.result + sum_by (λ t. 1 + length t) c.args.block.now.lines ≡ length (block_text c.args.number c.args.block.now) =
    omega (arith, block_length c.args.number c.args.block.now, from, digits) in
    sum_three (2 ^ 64 - 1) 14 (length c.format.result.now) c.path_len.result (sum_by (λ t. 1 + length t) c.args.block.now.lines) c.saturating_add.result c.saturating_add-2.result c.texts_len.result c.saturating_add-3.result
    c.saturating_add.ensures c.saturating_add-2.ensures lines c.saturating_add-3.ensures
    ∙ ap saturated total
