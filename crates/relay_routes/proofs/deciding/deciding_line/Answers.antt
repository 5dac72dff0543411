use Rattle.std.proofs.Common.{Some, ap, ◌∙◌}
use Rattle.relay_routes.specs.DecidingLines.{first_line_at}
use Rattle.relay_routes.proofs.DecidingFacts.{decides}
use Rattle.relay_routes.proofs.deciding.deciding_line.Goals as goal

pub returns-in-Some : goal.returns-in-Some
returns-in-Some c =
    let lines = c.in_ok-lines.lines.items in
    let keys = c.in_ok-keys.keys.items in
    ap Some c.in_ok-copy-in-Some.ensures ∙ c.in-Some.ensures
    ∙ ap (λ ls. first_line_at ls c.deref-2.result.now) c.deref.ensures.value ∙ ap (first_line_at lines) c.deref-2.ensures.value
    ∙ decides c.args.table.now c.args.delimiter c.args.address.now lines keys c.in_ok-lines.ensures c.in_ok-keys.ensures

pub returns : goal.returns
returns c =
    let lines = c.in_ok-lines.lines.items in
    let keys = c.in_ok-keys.keys.items in
    c.in-None.ensures
    ∙ ap (λ ls. first_line_at ls c.deref-2.result.now) c.deref.ensures.value ∙ ap (first_line_at lines) c.deref-2.ensures.value
    ∙ decides c.args.table.now c.args.delimiter c.args.address.now lines keys c.in_ok-lines.ensures c.in_ok-keys.ensures
