use Rattle.std.proofs.Common.{◌≡◌, ◌+◌, ◌-◌, ◌^◌, length, sum_by, ap, ◌∙◌, arith}
use Rattle.std.specs.List.{enumerate_from}
use Rattle.relay_wire.specs.Lengths.{saturated}
use Rattle.relay_wire.specs.PlanText.{line, first_line, numbered_texts, transaction_text, plan_text_of}
use Rattle.relay_wire.proofs.LengthSums.{sum_whole, whole_length}
use Rattle.relay_wire.proofs.lengths.plan_len.Goals as goal

pub returns : goal.returns
returns c =
    let counts : c.counts_len.result ≡ length (line (first_line c.args.plan.now)) = rw (c.len.ensures, c.len-2.ensures, c.requires) at c.counts_len.ensures in
    let part = rw c.as_slice.ensures at c.transactions_len.ensures in
    let findings = rw c.as_slice-2.ensures at c.texts_len.ensures in
    let total : c.counts_len.result + length (numbered_texts transaction_text (enumerate_from 1 c.args.plan.now.transactions)) + sum_by (λ t. 1 + length t) c.args.plan.now.findings + 4 ≡ length (plan_text_of c.args.plan.now) =
    omega (arith, whole_length transaction_text c.args.plan.now, counts) in
    sum_whole (2 ^ 64 - 1) c.counts_len.result (length (numbered_texts transaction_text (enumerate_from 1 c.args.plan.now.transactions))) (sum_by (λ t. 1 + length t) c.args.plan.now.findings)
    c.saturating_add.result c.transactions_len.result c.texts_len.result c.saturating_add-2.result c.saturating_add-3.result
    part c.saturating_add.ensures findings c.saturating_add-2.ensures c.saturating_add-3.ensures
    ∙ ap saturated total
