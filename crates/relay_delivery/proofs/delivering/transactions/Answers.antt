use Rattle.std.proofs.Common.{Vec, Global}
use Rattle.std.proofs.lemmas.Result.{IfOk-weaker}
use Rattle.relay_wire.specs.declared.plan.Planned.{Planned}
use Rattle.relay_delivery.specs.Groups.{limit_at, IsSoundFor, IsFewest}
use Rattle.relay_delivery.specs.Placings.{senders_of, routes_of, IsPlacedBy}
use Rattle.relay_delivery.proofs.SamePlaced.{sound_over, fewest_over}
use Rattle.relay_delivery.proofs.delivering.transactions.Goals as goal

pub returns-clause-sound : goal.returns-clause-sound
returns-clause-sound g c =
    let limit = limit_at c.args.limits in
    let p = c.in_ok-placing.placing in
    let placed_in_order = IsPlacedBy (senders_of p.senders.items) (routes_of p.routes.items) p.recipients.items p.deliveries.items in
    let placed = IsPlacedBy (senders_of c.args.senders.now) c.args.routes.now c.args.recipients.now c.args.deliveries.items in
    IfOk-weaker c.cut.result (λ (ts : Vec Planned Global). IsSoundFor limit placed_in_order ts.items) (λ (ts : Vec Planned Global). IsSoundFor limit placed ts.items)
    (λ ts h. sound_over limit placed_in_order placed c.in_ok-placing.ensures.placed ts.items h) c.cut.ensures.sound

pub returns-clause-fewest : goal.returns-clause-fewest
returns-clause-fewest g c =
    let limit = limit_at c.args.limits in
    let p = c.in_ok-placing.placing in
    let placed_in_order = IsPlacedBy (senders_of p.senders.items) (routes_of p.routes.items) p.recipients.items p.deliveries.items in
    let placed = IsPlacedBy (senders_of c.args.senders.now) c.args.routes.now c.args.recipients.now c.args.deliveries.items in
    IfOk-weaker c.cut.result (λ (ts : Vec Planned Global). IsFewest limit placed_in_order ts.items) (λ (ts : Vec Planned Global). IsFewest limit placed ts.items)
    (λ ts h. fewest_over limit placed_in_order placed c.in_ok-placing.ensures.placed ts.items h) c.cut.ensures.fewest
