use Rattle.std.proofs.Common.{◌≡◌, ◌∙◌, ℕ, List, [], ◌∷◌, ◌++◌, ap, sym, subst}
use Rattle.std.specs.Prelude.{Result, Err}
use Rattle.relay_routes.specs.declared.route.Route.{Route}
use Rattle.relay_routes.specs.declared.unrouted.Unrouted.{Unrouted}
use Rattle.relay_routes.specs.Routing.{Routing}
use Rattle.relay_routes.specs.Routes.{route_to}
use Rattle.relay_destinations.specs.RoutesFound.{RoutesFound}
use Rattle.relay_destinations.specs.Ways.{Means}
use Rattle.relay_destinations.specs.Numbering.{Numbering, key_of}
use Rattle.relay_destinations.proofs.Numbered.{failure_numbered}
use Rattle.relay_destinations.proofs.numbered_routes.NumberedRoutes.put_reason_of.Goals as goal

pub invariant_of-self-2 : goal.invariant_of-self-2
invariant_of-self-2 c =
    let i = c.self.inside in
    let t = c.args.to.now.transport in
    let n = c.args.to.now.nexthop in
    let way = c.in_ok-way.way in
    let found : RoutesFound = record { routing = i.finder; via = i.via.now; routes = i.routes.items; reasons = i.reasons.items } in
    let routing : i.finder ≡ c.args.self.now.found.routing = ap (λ (v : Numbering). v.found.routing) c.self.view_is ∙ c.in_ok-way.ensures.kept.routing in
    let fails : route_to i.finder t n ≡ Err c.args.reason = ap (λ (r : Routing). route_to r t n) routing ∙ c.requires.reason c.in_ok-way.ensures.way.0 in
    let means : Means found way (Err c.args.reason) = subst (λ (v : Numbering). Means v.found way (Err c.args.reason)) (sym c.self.view_is) c.in_ok-way.ensures.way.1 in
    let known : c.keep.new.self ≡ i.known ++ (key_of t n, way) ∷ [] = c.in_ok-keep.ensures.ok ∙ ap (λ (k : List ℕ). i.known ++ (k, way) ∷ []) c.requires.key in
    rw known (failure_numbered found i.known t n way c.self.invariant (subst (λ (given : Result Route Unrouted). Means found way given) (sym fails) means))
