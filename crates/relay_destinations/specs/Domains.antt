-- Ways by domain.
use Rattle.std.specs.Prelude.{◌≡◌, ℕ, Bool, true, List, Some}
use Rattle.relay_text.specs.AddressParts.{AddressParts}
use Rattle.relay_routes.specs.Routing.{Routing}
use Rattle.relay_routes.specs.Routes.{route_of, route_via_of}
use Rattle.relay_destinations.specs.declared.way.Way.{Way}
use Rattle.relay_destinations.specs.RoutesFound.{RoutesFound}
use Rattle.relay_destinations.specs.Ways.{Means}
use Rattle.relay_destinations.specs.KnownWays.{way_in}

-- all addresses of a domain have one route
abbrev pub GoesByDomain : Routing → Type 0
GoesByDomain routing = (a b : AddressParts) → a.domain ≡ b.domain → route_of routing a ≡ route_of routing b

-- The way of a domain is that of each address and each mailbox in it.
pub record AreByDomain (found : RoutesFound) (goes_by_domain : Bool) (remote mailboxes : List (List ℕ × Way)) : Type 0 where
  pub by_domain : goes_by_domain ≡ true → GoesByDomain found.routing
  pub addresses : (a : AddressParts) (way : Way) → way_in remote a.domain ≡ Some way → Means found way (route_of found.routing a)
  pub at_mailboxes : (a : AddressParts) (way : Way) → way_in mailboxes a.domain ≡ Some way → Means found way (route_via_of found.routing found.via a)
