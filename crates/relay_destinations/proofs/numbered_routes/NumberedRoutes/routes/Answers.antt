use Rattle.std.proofs.Common.{subst}
use Rattle.std.specs.Prelude.{◌≢◌, ◌⊎◌, AllPairs}
use Rattle.relay_routes.specs.declared.route.Route.{Route}
use Rattle.relay_destinations.specs.RoutesFound.{RoutesFound}
use Rattle.relay_destinations.specs.Numbering.{Numbering}
use Rattle.relay_destinations.proofs.Numbered.{all_apart}
use Rattle.relay_destinations.proofs.numbered_routes.NumberedRoutes.routes.Goals as goal

pub returns-clause-apart : goal.returns-clause-apart
returns-clause-apart c =
    let i = c.self.inside in
    let found : RoutesFound = record { routing = i.finder; via = i.via.now; routes = i.routes.items; reasons = i.reasons.items } in
    subst (λ (v : Numbering). AllPairs (λ (r q : Route). (r.transport ≢ q.transport) ⊎ (r.nexthop ≢ q.nexthop)) v.found.routes) c.self.view_is (all_apart found i.known c.self.invariant)
