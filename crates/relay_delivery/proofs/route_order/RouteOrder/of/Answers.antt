use Rattle.std.proofs.Common.{◌≡◌, ◌∙◌, map, sym, ap, subst}
use Rattle.std.specs.Borrow.{Bor}
use Rattle.std.specs.declared.cmp.Ordering.TheVariants.{Less}
use Rattle.relay_routes.specs.declared.route.Route.{Route}
use Rattle.relay_delivery.specs.Groups.{route_cmp}
use Rattle.relay_delivery.specs.Placings.{routes_of}
use Rattle.relay_delivery.specs.Ranks.{AreRanks}
use Rattle.relay_delivery.specs.Orders.{route_key}
use Rattle.relay_delivery.proofs.PickFacts.{ArePicked, picked_of, picked_map, picks_ascend, have_moved}
use Rattle.relay_delivery.proofs.RouteFacts.{route_key_cmp, one_route}
use Rattle.relay_delivery.proofs.route_order.RouteOrder.of.Goals as goal

pub returns : goal.returns
returns g c =
    let routes = c.args.routes.now in
    let order = c.in_ok-order.field-0.order.items in
    let place_of = c.in_ok-order.field-0.place_of.items in
    let picks = c.in_ok-routes.routes.items in
    let all = c.as_slice.result.now in
    let numbers = c.as_slice-2.result.now in
    let ranks : AreRanks (map route_key routes) order place_of = subst (λ ps. AreRanks ps order place_of) c.in_ok-route_keys.ensures.keys.parts_are c.in_ok-order.ensures in
    let is_all : routes_of all ≡ routes = ap routes_of c.as_slice.ensures.value ∙ c.in_ok-all.ensures in
    let is_order : numbers ≡ order = c.as_slice-2.ensures.value ∙ (cc) in
    let by_number : ArePicked (routes_of all) numbers (routes_of picks) = picked_map (λ (h : Bor Route). h.now) all numbers picks (picked_of all numbers picks c.in_ok-routes.ensures) in
    let picked : ArePicked routes order (routes_of picks) = subst (λ rs. ArePicked rs order (routes_of picks)) is_all (subst (λ ns. ArePicked (routes_of all) ns (routes_of picks)) is_order by_number) in
    record {
      ascending = picks_ascend route_key routes order place_of (routes_of picks) ranks picked (λ r q. route_cmp r q ≡ Less) (λ r q e. sym (route_key_cmp r q) ∙ e);
      moved = have_moved route_key routes order place_of (routes_of picks) ranks picked (one_route routes c.requires);
    }
