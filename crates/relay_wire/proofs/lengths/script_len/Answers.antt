use Rattle.std.proofs.Common.{◌≡◌, ◌+◌, ◌-◌, ◌^◌, Some, length, sum_by, ap, ◌∙◌, arith}
use Rattle.relay_text.specs.Addresses.{path_text_of}
use Rattle.relay_wire.specs.Lengths.{saturated}
use Rattle.relay_wire.specs.Script.{script_of, script_text}
use Rattle.relay_wire.proofs.LengthSums.{sum_three, script_length}
use Rattle.relay_wire.proofs.lengths.script_len.Goals as goal

pub returns : goal.returns
returns c =
    let to = rw c.as_slice.ensures at c.paths_len.ensures in
    let from = rw c.as_ref.ensures.value at c.path_len.ensures in
    let total : 25 + length c.args.hostname.now + c.path_len.result + sum_by (λ a. 10 + length (path_text_of (Some a))) c.args.planned.now.to ≡ length (script_text (script_of c.args.planned.now c.args.hostname.now)) =
    omega (arith, script_length c.args.planned.now c.args.hostname.now, from) in
    sum_three (2 ^ 64 - 1) 25 (length c.args.hostname.now) c.path_len.result (sum_by (λ a. 10 + length (path_text_of (Some a))) c.args.planned.now.to) c.saturating_add.result c.saturating_add-2.result c.paths_len.result c.saturating_add-3.result
    c.saturating_add.ensures c.saturating_add-2.ensures to c.saturating_add-3.ensures
    ∙ ap saturated total
