use Rattle.std.proofs.Common.{◌≡◌, ◌+◌, ◌-◌, ◌^◌, length, sum_by, ap, ◌∙◌, arith}
use Rattle.relay_wire.specs.Lengths.{saturated}
use Rattle.relay_wire.specs.PlanText.{lines_of, host_lines}
use Rattle.relay_wire.proofs.LengthSums.{sum_three, route_length}
use Rattle.relay_wire.proofs.lengths.route_len.Goals as goal

pub returns : goal.returns
returns c =
    let hosts = rw c.as_slice.ensures at c.texts_len.ensures in
    let name = ap length c.name.ensures in
    let total : 6 + length c.name.result.now + c.len.result + sum_by (λ h. 6 + length h) c.args.planned.now.hosts ≡ length (lines_of (host_lines c.args.planned.now)) =
    omega (arith, route_length c.args.planned.now, name, c.len.ensures) in
    sum_three (2 ^ 64 - 1) 6 (length c.name.result.now) c.len.result (sum_by (λ h. 6 + length h) c.args.planned.now.hosts) c.saturating_add.result c.saturating_add-2.result c.texts_len.result c.saturating_add-3.result
    c.saturating_add.ensures c.saturating_add-2.ensures hosts c.saturating_add-3.ensures
    ∙ ap saturated total
