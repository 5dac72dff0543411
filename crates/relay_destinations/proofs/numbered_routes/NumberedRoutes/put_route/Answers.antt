use Rattle.std.proofs.Common.{◌≡◌, ◌∙◌, ℕ, List, [], ◌∷◌, ◌++◌, length, ap, sym, subst, arith}
use Rattle.std.specs.Prelude.{None, Ok, slice_get}
use Rattle.relay_routes.specs.declared.route.Route.{Route}
use Rattle.relay_routes.specs.Routes.{route_to}
use Rattle.relay_destinations.specs.declared.way.Way.TheVariants.{To}
use Rattle.relay_destinations.specs.RoutesFound.{RoutesFound}
use Rattle.relay_destinations.specs.Ways.{Keeps}
use Rattle.relay_destinations.specs.KnownWays.{way_in}
use Rattle.relay_destinations.specs.Numbering.{Numbering, key_of}
use Rattle.relay_destinations.proofs.Meanings.{get_last}
use Rattle.relay_destinations.proofs.Numbered.{with_route, route_kept, route_numbered}
use Rattle.relay_destinations.proofs.numbered_routes.NumberedRoutes.put_route.Goals as goal

pub invariant_of-self-2 : goal.invariant_of-self-2
invariant_of-self-2 c =
    let i = c.self.inside in
    let route = c.args.route in
    let number = c.in_ok-number.number in
    let found : RoutesFound = record { routing = i.finder; via = i.via.now; routes = i.routes.items; reasons = i.reasons.items } in
    let count : number ≡ length i.routes.items = omega (arith, c.in_ok-number.ensures, c.len.ensures) in
    let routes : c.push_reserved.new.self.items ≡ i.routes.items ++ route ∷ [] = c.push_reserved.ensures.items ∙ ap (λ (rs : List Route). rs ++ route ∷ []) c.in_ok-reserve.ensures.items in
    let known : c.keep.new.self ≡ i.known ++ (key_of route.transport route.nexthop, To number) ∷ [] = c.in_ok-keep.ensures.ok ∙ ap (λ (k : List ℕ). i.known ++ (k, To number) ∷ []) c.requires.key in
    let new : way_in i.known (key_of route.transport route.nexthop) ≡ None =
    ap (way_in i.known) (sym c.requires.key) ∙ ap (λ (v : Numbering). way_in v.known c.args.key.now) c.self.view_is ∙ c.requires.new in
    let is : route_to i.finder route.transport route.nexthop ≡ Ok route = ap (λ (v : Numbering). route_to v.found.routing route.transport route.nexthop) c.self.view_is ∙ c.requires.route in
    rw (routes, known) (route_numbered found i.known route number c.self.invariant count new is)

pub returns-clause-way : goal.returns-clause-way
returns-clause-way c =
    let i = c.self.inside in
    let route = c.args.route in
    let number = c.in_ok-number.number in
    let count : number ≡ length i.routes.items = omega (arith, c.in_ok-number.ensures, c.len.ensures) in
    let routes : c.push_reserved.new.self.items ≡ i.routes.items ++ route ∷ [] = c.push_reserved.ensures.items ∙ ap (λ (rs : List Route). rs ++ route ∷ []) c.in_ok-reserve.ensures.items in
    ap (λ (rs : List Route). slice_get rs number) routes ∙ ap (slice_get (i.routes.items ++ route ∷ [])) count ∙ get_last i.routes.items route

pub returns-clause-kept : goal.returns-clause-kept
returns-clause-kept c =
    let i = c.self.inside in
    let route = c.args.route in
    let found : RoutesFound = record { routing = i.finder; via = i.via.now; routes = i.routes.items; reasons = i.reasons.items } in
    let routes : c.push_reserved.new.self.items ≡ i.routes.items ++ route ∷ [] = c.push_reserved.ensures.items ∙ ap (λ (rs : List Route). rs ++ route ∷ []) c.in_ok-reserve.ensures.items in
    rw routes (subst (λ (v : Numbering). Keeps v.found (with_route found route)) c.self.view_is (route_kept found route))
