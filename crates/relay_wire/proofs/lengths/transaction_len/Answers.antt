use Rattle.std.proofs.Common.{◌≡◌, ◌+◌, ◌-◌, ◌^◌, Some, length, sum_by, ap, ◌∙◌, arith}
use Rattle.relay_text.specs.Addresses.{path_text_of}
use Rattle.relay_wire.specs.Lengths.{saturated}
use Rattle.relay_wire.specs.PlanText.{lines_of, host_lines, transaction_text}
use Rattle.relay_wire.proofs.LengthSums.{sum_four, transaction_length}
use Rattle.relay_wire.proofs.lengths.transaction_len.Goals as goal

pub returns : goal.returns
returns c =
    let to = rw c.as_slice.ensures at c.paths_len.ensures in
    let from = rw c.as_ref.ensures.value at c.path_len.ensures in
    let total : 19 + c.decimal_len.result + c.path_len.result + length (lines_of (host_lines c.args.planned.now)) + sum_by (λ a. 4 + length (path_text_of (Some a))) c.args.planned.now.to ≡ length (transaction_text c.args.number c.args.planned.now) =
    omega (arith, transaction_length c.args.number c.args.planned.now, from, c.decimal_len.ensures.digits) in
    sum_four (2 ^ 64 - 1) 19 c.decimal_len.result c.path_len.result (length (lines_of (host_lines c.args.planned.now))) (sum_by (λ a. 4 + length (path_text_of (Some a))) c.args.planned.now.to)
    c.saturating_add.result c.saturating_add-2.result c.route_len.result c.saturating_add-3.result c.paths_len.result c.saturating_add-4.result
    c.saturating_add.ensures c.saturating_add-2.ensures c.route_len.ensures c.saturating_add-3.ensures to c.saturating_add-4.ensures
    ∙ ap saturated total
