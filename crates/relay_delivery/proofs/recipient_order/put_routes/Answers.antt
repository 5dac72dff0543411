use Rattle.std.proofs.Common.{◌∙◌, sym, ap, arith}
use Rattle.std.proofs.lemmas.List.{map-id, get_or_default}
use Rattle.relay_delivery.specs.declared.routed.Routed.{Routed}
use Rattle.relay_delivery.specs.Orders.{moved_to}
use Rattle.relay_delivery.proofs.Lists.{same_maps}
use Rattle.relay_delivery.proofs.recipient_order.put_routes.Goals as goal

pub returns : goal.returns
returns g c =
    let places = c.args.route_places.now in
    let old = c.args.recipients.now in
    let new = c.for_each_mut.new.s in
    sym (map-id new)
    ∙ same_maps (moved_to places) (λ (r : Routed). r) old new (omega (arith, c.for_each_mut.auto.s))
    (λ k x y inside.
    let at = (c.for_each_mut.ensures k x inside).1 in
    get_or_default new k y x (omega (arith, inside, c.for_each_mut.auto.s)) ∙ sym at.left ∙ at.call ∙ ap (moved_to places) at.argument_is)
