-- A destination determines the route.
use Rattle.std.proofs.Common.{◌≡◌, ℕ, List, false, refl, sym, ap, ◌∙◌, subst}
use Rattle.std.specs.Prelude.{Option, Some, None, unwrap_or, Result, Ok, Err}
use Rattle.relay_text.specs.AddressParts.{AddressParts}
use Rattle.relay_routes.specs.declared.transport.Transport as names
use Rattle.relay_routes.specs.declared.choice.Choice.{Choice}
use Rattle.relay_routes.specs.declared.choice.Choice.TheVariants as choices
use Rattle.relay_routes.specs.declared.via.Via as settings
use Rattle.relay_routes.specs.declared.destination.Destination.{Destination}
use Rattle.relay_routes.specs.declared.route.Route.{Route}
use Rattle.relay_routes.specs.declared.unrouted.Unrouted.{Unrouted}
use Rattle.relay_routes.specs.declared.unrouted.Unrouted.TheVariants.{Domain, MxSelf, Transport, Refused, NullMx, Memory}
use Rattle.relay_routes.specs.Nexthops.{Nexthop, nexthop_of}
use Rattle.relay_routes.specs.Routing.{Routing}
use Rattle.relay_routes.specs.declared.transport_line.TransportLine.{TransportLine}
use Rattle.relay_routes.specs.Transports.{choice_of, choice_for, found_result}
use Rattle.relay_routes.specs.TableSteps.{domain_keys, has_address}
use Rattle.relay_routes.specs.Routes.{Answers, Fails, route_to, route_by, route_for, route_of, route_via_of}
use Rattle.relay_routes.specs.Destinations.{destination_by, destination_to, destination_for, destination_of, destination_via_of, Determines}
use Rattle.relay_routes.proofs.NexthopFacts.{nexthop_again}
use Rattle.relay_routes.proofs.KeyFacts.{keys_of_domain}
use Rattle.relay_routes.proofs.RouteFacts.{route_parts}

-- where nothing is found, for a reason
none_found : (r : Routing) (reason : Unrouted) → Determines r (Err reason) (Err reason)
none_found r reason = record {
  same_route = λ d e. cc;
  no_route = λ other e. cc;
  kept = λ d q e. cc;
}

-- the route by a destination
abbrev to_found : Routing → Destination → Result Route Unrouted
to_found r d = route_to r d.transport d.nexthop

-- where a nexthop is found, it is found again from its text
one_found : (r : Routing) (transport : names.Transport) (nexthop : List ℕ) (n : Nexthop) → nexthop_of transport nexthop ≡ Some n
    → Determines r (Ok (record { transport = transport; nexthop = n.text })) (route_by r transport (Some n))
unfolding route_to
one_found r transport nexthop n form =
    let here : Destination = record { transport = transport; nexthop = n.text } in
    let again : to_found r here ≡ route_by r transport (Some n) = ap (route_by r transport) (nexthop_again transport nexthop n form) in
    record {
      same_route = λ d e. (let is : here ≡ d = cc in sym again ∙ ap (to_found r) is);
      no_route = λ reason e. cc;
      kept = λ d q e f. (let is : here ≡ d = cc in
          let parts = route_parts r transport n q (sym again ∙ ap (to_found r) is ∙ f) in
          (parts.0 ∙ ap (λ (x : Destination). x.transport) is, parts.1 ∙ ap (λ (x : Destination). x.nexthop) is));
    }

pub to_nexthop : (r : Routing) (transport : names.Transport) (nexthop : List ℕ) → Determines r (destination_to transport nexthop) (route_to r transport nexthop)
unfolding route_to destination_to
to_nexthop r transport nexthop = at (nexthop_of transport nexthop) refl where
  at : (o : Option Nexthop) → nexthop_of transport nexthop ≡ o → Determines r (destination_by transport o) (route_by r transport o)
  at None form = none_found r Transport
  at (Some n) form = one_found r transport nexthop n form

by_choice : (r : Routing) (choice : Choice) (domain : List ℕ) → Determines r (destination_for r.settings.default_transport choice domain) (route_for r choice domain)
by_choice r choices.Absent domain = to_nexthop r r.settings.default_transport domain
by_choice r (choices.Via transport nexthop) domain = to_nexthop r (unwrap_or transport r.settings.default_transport) (unwrap_or nexthop domain)
by_choice r (choices.Refused text) domain = none_found r (Refused text)
by_choice r choices.Unknown domain = none_found r Transport

pub of_address : (r : Routing) (a : AddressParts) → Determines r (destination_of r a) (route_of r a)
of_address r a = by_choice r (choice_for r.transports.entries r.settings.delimiter a) a.domain

pub of_mailbox : (r : Routing) (via : settings.Via) (a : AddressParts) → Determines r (destination_via_of via a) (route_via_of r via a)
of_mailbox r via a = to_nexthop r via.transport (unwrap_or via.nexthop a.domain)

-- Where no pattern is that of an address, the choice and so the destination go by the domain.
choice_by_domain : (es : List TransportLine) (delimiter : Option ℕ) (a b : AddressParts) → has_address es ≡ false → a.domain ≡ b.domain → choice_for es delimiter a ≡ choice_for es delimiter b
choice_by_domain es delimiter a b none same =
    ap choice_of (sym (keys_of_domain es a delimiter none) ∙ ap (λ (d : List ℕ). found_result es (domain_keys d)) same ∙ keys_of_domain es b delimiter none)

pub destination_by_domain : (r : Routing) (a b : AddressParts) → has_address r.transports.entries ≡ false → a.domain ≡ b.domain → destination_of r a ≡ destination_of r b
destination_by_domain r a b none same =
    ap (λ (choice : Choice). destination_for r.settings.default_transport choice a.domain) (choice_by_domain r.transports.entries r.settings.delimiter a b none same)
    ∙ ap (λ (d : List ℕ). destination_for r.settings.default_transport (choice_for r.transports.entries r.settings.delimiter b) d) same

-- ---- calls: where a destination isn't found, and where the route of one is answered
fails_too : {r : Routing} {found : Result Destination Unrouted} {route : Result Route Unrouted} (reason : Unrouted) → Determines r found route → Fails reason found → Fails reason route
fails_too Memory says h = tt
fails_too Domain says h = says.no_route Domain h
fails_too MxSelf says h = says.no_route MxSelf h
fails_too Transport says h = says.no_route Transport h
fails_too (Refused text) says h = says.no_route (Refused text) h
fails_too NullMx says h = says.no_route NullMx h

pub not_found : {r : Routing} {found : Result Destination Unrouted} {route answer : Result Route Unrouted} {left reason : Unrouted} → Determines r found route
    → answer ≡ Err left → left ≡ reason → Fails reason found → Answers answer route
not_found {reason = reason} says is same h = rw (is, same) (fails_too reason says h)

pub answered : {r : Routing} {found : Result Destination Unrouted} {route : Result Route Unrouted} {to : Destination} {nexthop : List ℕ} (answer : Result Route Unrouted) → Determines r found route
    → found ≡ Ok to → nexthop ≡ to.nexthop → Answers answer (route_to r to.transport nexthop) → Answers answer route
answered {r = r} {to = to} answer says is same h = subst (λ given. Answers answer given) (ap (route_to r to.transport) same ∙ sym (says.same_route to is)) h
