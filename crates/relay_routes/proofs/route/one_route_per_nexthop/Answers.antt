use Rattle.relay_routes.proofs.RouteFacts.{one_route}
use Rattle.relay_routes.proofs.route.one_route_per_nexthop.Goals as goal

pub returns : goal.returns
returns c = one_route
