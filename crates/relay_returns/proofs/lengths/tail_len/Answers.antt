use Rattle.std.proofs.Common.{◌+◌, ◌-◌, ◌^◌, length, sum_by, sym, ap, ◌∙◌}
use Rattle.relay_wire.specs.Lengths.{saturated}
use Rattle.relay_returns.proofs.BlockLengths.{grown, tail_length}
use Rattle.relay_returns.proofs.lengths.tail_len.Goals as goal

pub returns : goal.returns
returns c =
    grown (2 ^ 64 - 1) (sum_by (λ t. 1 + length t) c.args.findings.now) 4 c.texts_len.result c.saturating_add.result c.texts_len.ensures c.saturating_add.ensures
    ∙ ap saturated (sym (tail_length c.args.findings.now))
