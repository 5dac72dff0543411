-- What a `Destinations` is to its callers: what the routes go by, and the routes and reasons that were found, under their numbers.
use Rattle.std.specs.Prelude.{List}
use Rattle.relay_routes.specs.declared.route.Route.{Route}
use Rattle.relay_routes.specs.declared.unrouted.Unrouted.{Unrouted}
use Rattle.relay_routes.specs.declared.via.Via.{Via}
use Rattle.relay_routes.specs.Routing.{Routing}

pub record RoutesFound : Type 0 where
  pub routing : Routing
  pub via : Via
  pub routes : List Route
  pub reasons : List Unrouted
