-- Routes by destination.
use Rattle.std.specs.Prelude.{◌≡◌, ◌≢◌, ℕ, List, ◌++◌, codes, Some, Ok, slice_get}
use Rattle.relay_routes.specs.declared.route.Route.{Route}
use Rattle.relay_routes.specs.declared.transport.Transport.{Transport}
use Rattle.relay_routes.specs.declared.unrouted.Unrouted.{Unrouted}
use Rattle.relay_routes.specs.declared.unrouted.Unrouted.TheVariants.{Memory}
use Rattle.relay_routes.specs.Routing.{Routing}
use Rattle.relay_routes.specs.Routes.{route_to}
use Rattle.relay_routes.specs.Transports.{transport_name}
use Rattle.relay_destinations.specs.declared.way.Way.{Way}
use Rattle.relay_destinations.specs.declared.way.Way.TheVariants.{To}
use Rattle.relay_destinations.specs.RoutesFound.{RoutesFound}
use Rattle.relay_destinations.specs.Ways.{Means}
use Rattle.relay_destinations.specs.KnownWays.{way_in}

-- what is found, and the ways of the destinations' keys
pub record Numbering : Type 0 where
  pub found : RoutesFound
  pub known : List (List ℕ × Way)

-- a destination as a transport table writes it
abbrev pub key_of : Transport → List ℕ → List ℕ
key_of transport nexthop = transport_name transport ++ codes ":" ++ nexthop

-- A destination's way is its route's number, each route is that of its own destination alone, and no reason is want of memory.
pub record AreNumbered (found : RoutesFound) (known : List (List ℕ × Way)) : Type 0 where
  pub answers : (transport : Transport) (nexthop : List ℕ) (way : Way) → way_in known (key_of transport nexthop) ≡ Some way
      → Means found way (route_to found.routing transport nexthop)
  pub listed : (number : ℕ) (route : Route) → slice_get found.routes number ≡ Some route → way_in known (key_of route.transport route.nexthop) ≡ Some (To number)
  pub lasting : (number : ℕ) (reason : Unrouted) → slice_get found.reasons number ≡ Some reason → reason ≢ Memory

-- a route keeps the transport and the nexthop that it is by, as that of a destination does
abbrev pub KeepsNexthop : Routing → Transport → List ℕ → Type 0
KeepsNexthop routing transport nexthop = (route : Route) → route_to routing transport nexthop ≡ Ok route → (route.transport ≡ transport) × (route.nexthop ≡ nexthop)
