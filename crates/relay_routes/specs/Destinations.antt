-- Where addresses go before hosts are looked up, and what that says of their routes (transport(5), "RESULT FORMAT").
use Rattle.std.specs.Prelude.{◌≡◌, ℕ, List, Option, Some, None, unwrap_or, Result, Ok, Err, if◌then◌else◌}
use Rattle.relay_text.specs.AddressParts.{AddressParts}
use Rattle.relay_routes.specs.declared.transport.Transport as names
use Rattle.relay_routes.specs.declared.choice.Choice.{Choice}
use Rattle.relay_routes.specs.declared.choice.Choice.TheVariants as choices
use Rattle.relay_routes.specs.declared.via.Via as settings
use Rattle.relay_routes.specs.declared.destination.Destination.{Destination}
use Rattle.relay_routes.specs.declared.route.Route.{Route}
use Rattle.relay_routes.specs.declared.unrouted.Unrouted.{Unrouted}
use Rattle.relay_routes.specs.declared.unrouted.Unrouted.TheVariants.{Transport, Refused}
use Rattle.relay_routes.specs.Transports.{choice_for}
use Rattle.relay_routes.specs.Nexthops.{Nexthop, nexthop_of}
use Rattle.relay_routes.specs.Routing.{Routing}
use Rattle.relay_routes.specs.Routes.{route_to}

abbrev pub destination_by : names.Transport → Option Nexthop → Result Destination Unrouted
destination_by transport None = Err Transport
destination_by transport (Some n) = Ok (record { transport = transport; nexthop = n.text })

-- the transport and the nexthop as the plan writes it, where the transport takes such a nexthop
unfoldable pub destination_to : names.Transport → List ℕ → Result Destination Unrouted
destination_to transport nexthop = destination_by transport (nexthop_of transport nexthop)

-- Where the table names no transport it's the default one, and where it names no nexthop it's the recipient's domain.
abbrev pub destination_for : names.Transport → Choice → List ℕ → Result Destination Unrouted
destination_for default_transport choices.Absent domain = destination_to default_transport domain
destination_for default_transport (choices.Via transport nexthop) domain = destination_to (unwrap_or transport default_transport) (unwrap_or nexthop domain)
destination_for default_transport (choices.Refused text) domain = Err (Refused text)
destination_for default_transport choices.Unknown domain = Err Transport

abbrev pub destination_of : Routing → AddressParts → Result Destination Unrouted
destination_of r a = destination_for r.settings.default_transport (choice_for r.transports.entries r.settings.delimiter a) a.domain

-- A mailbox goes by its setting; where that names no nexthop it's the address's domain.
abbrev pub destination_via_of : settings.Via → AddressParts → Result Destination Unrouted
destination_via_of via a = destination_to via.transport (unwrap_or via.nexthop a.domain)

-- A destination determines the route: it's the one by its transport to its nexthop, which a route keeps as they are. Where there is
-- no destination, there is no route, for the same reason.
pub record Determines (r : Routing) (found : Result Destination Unrouted) (route : Result Route Unrouted) : Type 0 where
  pub same_route : (d : Destination) → found ≡ Ok d → route ≡ route_to r d.transport d.nexthop
  pub no_route : (reason : Unrouted) → found ≡ Err reason → route ≡ Err reason
  pub kept : (d : Destination) (q : Route) → found ≡ Ok d → route_to r d.transport d.nexthop ≡ Ok q → (q.transport ≡ d.transport) × (q.nexthop ≡ d.nexthop)

-- The name whose mail exchangers a nexthop's route asks for: its host without the port, where they are looked up. A route to a host in
-- brackets, over LMTP or to no nexthop of the transport's forms asks for none.
abbrev pub name_of_nexthop : Option Nexthop → Option (List ℕ)
name_of_nexthop None = None
name_of_nexthop (Some n) = if n.looks_up then Some n.host else None

abbrev pub looked_up_name : Destination → Option (List ℕ)
looked_up_name d = name_of_nexthop (nexthop_of d.transport d.nexthop)
