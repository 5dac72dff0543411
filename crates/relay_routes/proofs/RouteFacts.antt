-- The transport and the nexthop of a route give the whole route.
use Rattle.std.proofs.Common.{◌≡◌, List, ℕ, refl, sym, ap, ◌∙◌}
use Rattle.std.specs.Prelude.{Option, Some, None, Result, Ok, Err}
use Rattle.relay_text.specs.Addresses.{result_map}
use Rattle.relay_routes.specs.declared.transport.Transport as names
use Rattle.relay_routes.specs.declared.route.Route.{Route}
use Rattle.relay_routes.specs.declared.unrouted.Unrouted.{Unrouted}
use Rattle.relay_routes.specs.Nexthops.{Nexthop, nexthop_of}
use Rattle.relay_routes.specs.Routing.{Routing}
use Rattle.relay_routes.specs.Routes.{route_to, route_by, route_with, nexthop_hosts}
use Rattle.relay_routes.proofs.NexthopFacts.{nexthop_again}

pub route_parts : (router : Routing) (transport : names.Transport) (n : Nexthop) (r : Route) → route_by router transport (Some n) ≡ Ok r → (r.transport ≡ transport) × (r.nexthop ≡ n.text)
route_parts router transport n r e = at (nexthop_hosts router n) e where
  at : (found : Result (List (List ℕ)) Unrouted) → result_map (route_with transport n) found ≡ Ok r → (r.transport ≡ transport) × (r.nexthop ≡ n.text)
  at (Err reason) h = absurd (let no : ⊥ = cc in no)
  at (Ok hosts) h =
      let is : route_with transport n hosts ≡ r = cc in
      (sym (ap (λ x. x.transport) is), sym (ap (λ x. x.nexthop) is))

pub route_again : (router : Routing) (transport : names.Transport) (nexthop : List ℕ) (r : Route) → route_to router transport nexthop ≡ Ok r → (r.transport ≡ transport) × (route_to router transport r.nexthop ≡ Ok r)
unfolding route_to
route_again router transport nexthop r e = at (nexthop_of transport nexthop) refl e where
  at : (o : Option Nexthop) → nexthop_of transport nexthop ≡ o → route_by router transport o ≡ Ok r → (r.transport ≡ transport) × (route_by router transport (nexthop_of transport r.nexthop) ≡ Ok r)
  at None form h = absurd (let no : ⊥ = cc in no)
  at (Some n) form h =
      let parts = route_parts router transport n r h in
      (parts.0, ap (λ t. route_by router transport (nexthop_of transport t)) parts.1 ∙ ap (route_by router transport) (nexthop_again transport nexthop n form) ∙ h)

same_ok : (r q : Route) → (let first : Result Route Unrouted = Ok r in let second : Result Route Unrouted = Ok q in first ≡ second) → r ≡ q
same_ok r q e = cc

pub one_route : (router : Routing) (transport : names.Transport) (n m : List ℕ) (r q : Route) → route_to router transport n ≡ Ok r → route_to router transport m ≡ Ok q → r.nexthop ≡ q.nexthop → r ≡ q
one_route router transport n m r q e f same =
    same_ok r q (sym (route_again router transport n r e).1 ∙ ap (route_to router transport) same ∙ (route_again router transport m q f).1)
