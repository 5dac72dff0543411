use Rattle.std.proofs.Common.{◌≡◌, ◌+◌, ◌-◌, ◌^◌, min, decimal, length, ap, ◌∙◌, arith}
use Rattle.relay_wire.specs.Lengths.{saturated}
use Rattle.relay_wire.specs.PlanText.{lines_of, host_lines, scripted_text}
use Rattle.relay_wire.specs.Script.{script_of, script_text}
use Rattle.relay_wire.proofs.LengthSums.{sum_scripted, scripted_length}
use Rattle.relay_wire.proofs.lengths.scripted_len.Goals as goal

pub returns : goal.returns
returns c =
    let third : c.saturating_add-3.result ≡ min (c.saturating_add-2.result + length (decimal c.script_len-script.result)) (2 ^ 64 - 1) =
    c.saturating_add-3.ensures ∙ ap (λ n. min (c.saturating_add-2.result + n) (2 ^ 64 - 1)) c.decimal_len-2.ensures.digits in
    let total : 21 + c.decimal_len.result + length (lines_of (host_lines c.args.planned.now)) + length (decimal (length (script_text (script_of c.args.planned.now c.args.hostname.now)))) + length (script_text (script_of c.args.planned.now c.args.hostname.now))
    ≡ length (scripted_text c.args.hostname.now c.args.number c.args.planned.now) =
    omega (arith, scripted_length c.args.hostname.now c.args.number c.args.planned.now, c.decimal_len.ensures.digits) in
    sum_scripted (2 ^ 64 - 1) 21 c.decimal_len.result (length (lines_of (host_lines c.args.planned.now))) (length (script_text (script_of c.args.planned.now c.args.hostname.now)))
    c.saturating_add.result c.route_len.result c.saturating_add-2.result c.script_len-script.result c.saturating_add-3.result c.saturating_add-4.result
    c.saturating_add.ensures c.route_len.ensures c.saturating_add-2.ensures c.script_len-script.ensures third c.saturating_add-4.ensures
    ∙ ap saturated total
