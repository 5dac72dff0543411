-- Routes (transport(5) of Postfix, "RESULT FORMAT"; RFC 5321 section 5).
use Rattle.std.specs.Prelude.{◌≡◌, ℕ, List, [], ◌∷◌, ◌++◌, map, Option, Some, None, unwrap_or, Result, Ok, Err, ⊤, if◌then◌else◌}
use Rattle.relay_text.specs.AddressParts.{AddressParts}
use Rattle.relay_text.specs.Addresses.{result_map}
use Rattle.relay_routes.specs.declared.transport.Transport as names
use Rattle.relay_routes.specs.declared.choice.Choice.{Choice}
use Rattle.relay_routes.specs.declared.choice.Choice.TheVariants as choices
use Rattle.relay_routes.specs.declared.via.Via as settings
use Rattle.relay_routes.specs.declared.route.Route.{Route}
use Rattle.relay_routes.specs.declared.unrouted.Unrouted.{Unrouted}
use Rattle.relay_routes.specs.declared.unrouted.Unrouted.TheVariants.{Transport, Refused, Memory}
use Rattle.relay_routes.specs.Transports.{choice_for}
use Rattle.relay_routes.specs.Nexthops.{Nexthop, nexthop_of}
use Rattle.relay_routes.specs.Exchanges.{hosts_of}
use Rattle.relay_routes.specs.Routing.{Routing}

-- the mail exchangers of a domain
abbrev pub exchangers_of : Routing → List ℕ → Result (List (List ℕ)) Unrouted
exchangers_of r domain = hosts_of r.exchanges domain r.settings.own_names r.settings.seed

-- a nexthop's hosts without their ports: its mail exchangers where they are looked up, else the one host
abbrev pub nexthop_hosts : Routing → Nexthop → Result (List (List ℕ)) Unrouted
nexthop_hosts r n = if n.looks_up then exchangers_of r n.host else Ok (n.host ∷ [])

-- the route by a transport and a nexthop, whose port follows each host
abbrev pub route_with : names.Transport → Nexthop → List (List ℕ) → Route
route_with transport n hosts = record { transport = transport; nexthop = n.text; hosts = map (λ host. host ++ n.port) hosts }

abbrev pub route_by : Routing → names.Transport → Option Nexthop → Result Route Unrouted
route_by r transport None = Err Transport
route_by r transport (Some n) = result_map (route_with transport n) (nexthop_hosts r n)

unfoldable pub route_to : Routing → names.Transport → List ℕ → Result Route Unrouted
route_to r transport nexthop = route_by r transport (nexthop_of transport nexthop)

-- Where the table names no transport it's the default one, and where it names no nexthop it's the recipient's domain.
abbrev pub route_for : Routing → Choice → List ℕ → Result Route Unrouted
route_for r choices.Absent domain = route_to r r.settings.default_transport domain
route_for r (choices.Via transport nexthop) domain = route_to r (unwrap_or transport r.settings.default_transport) (unwrap_or nexthop domain)
route_for r (choices.Refused text) domain = Err (Refused text)
route_for r choices.Unknown domain = Err Transport

abbrev pub route_of : Routing → AddressParts → Result Route Unrouted
route_of r a = route_for r (choice_for r.transports.entries r.settings.delimiter a) a.domain

-- A mailbox goes by its setting, without a look-up in the table; where that names no nexthop it's the address's domain.
abbrev pub route_via_of : Routing → settings.Via → AddressParts → Result Route Unrouted
route_via_of r via a = route_to r via.transport (unwrap_or via.nexthop a.domain)

-- What a call answers is what the definition gives, unless memory ran out.
abbrev pub Fails : {A : Type 0} → Unrouted → Result A Unrouted → Type 0
Fails Memory given = ⊤
Fails reason given = given ≡ Err reason

abbrev pub Answers : {A : Type 0} → Result A Unrouted → Result A Unrouted → Type 0
Answers (Ok a) given = given ≡ Ok a
Answers (Err reason) given = Fails reason given
