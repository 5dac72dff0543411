-- Ways by domain, as more of them are found.
use Rattle.std.proofs.Common.{◌≡◌, ℕ, List, [], ◌∷◌, ◌++◌, refl, sym, ◌∙◌, subst, inl, inr, Bool, true}
use Rattle.std.specs.Prelude.{unwrap_or, Result, Ok, Err}
use Rattle.relay_text.specs.AddressParts.{AddressParts}
use Rattle.relay_routes.specs.declared.destination.Destination.{Destination}
use Rattle.relay_routes.specs.declared.route.Route.{Route}
use Rattle.relay_routes.specs.declared.unrouted.Unrouted.{Unrouted}
use Rattle.relay_routes.specs.declared.via.Via.{Via}
use Rattle.relay_routes.specs.Routing.{Routing}
use Rattle.relay_routes.specs.Routes.{route_to, route_of, route_via_of}
use Rattle.relay_routes.specs.Destinations.{destination_of, Determines}
use Rattle.relay_destinations.specs.declared.way.Way.{Way}
use Rattle.relay_destinations.specs.RoutesFound.{RoutesFound}
use Rattle.relay_destinations.specs.Ways.{Means, Keeps}
use Rattle.relay_destinations.specs.Domains.{GoesByDomain, AreByDomain}
use Rattle.relay_destinations.proofs.Pairs.{pair_cases}
use Rattle.relay_destinations.proofs.Meanings.{means_kept}

-- One destination has one route.
one_route : {r : Routing} {first second : Result Route Unrouted} (found : Result Destination Unrouted) → Determines r found first → Determines r found second → first ≡ second
one_route (Ok to) says also = says.same_route to refl ∙ sym (also.same_route to refl)
one_route (Err reason) says also = says.no_route reason refl ∙ sym (also.no_route reason refl)

pub routes_by_domain : (r : Routing) → ((a b : AddressParts) → a.domain ≡ b.domain → destination_of r a ≡ destination_of r b)
    → ((a : AddressParts) → Determines r (destination_of r a) (route_of r a)) → GoesByDomain r
routes_by_domain r destinations determines a b same =
    one_route (destination_of r b) (subst (λ (found : Result Destination Unrouted). Determines r found (route_of r a)) (destinations a b same) (determines a)) (determines b)

-- What is known of domains stays.
pub domains_kept : (old new : RoutesFound) (goes : Bool) (remote mailboxes : List (List ℕ × Way)) → AreByDomain old goes remote mailboxes → Keeps old new
    → AreByDomain new goes remote mailboxes
domains_kept old new goes remote mailboxes by kept = record {
  by_domain = λ by_domains. subst GoesByDomain (sym kept.routing) (by.by_domain by_domains);
  addresses = λ a way has. subst (λ (r : Routing). Means new way (route_of r a)) (sym kept.routing) (means_kept way (route_of old.routing a) kept (by.addresses a way has));
  at_mailboxes = λ a way has.
      subst (λ (r : Routing). Means new way (route_via_of r new.via a)) (sym kept.routing)
      (subst (λ (v : Via). Means new way (route_via_of old.routing v a)) (sym kept.via) (means_kept way (route_via_of old.routing old.via a) kept (by.at_mailboxes a way has)));
}

-- One domain's way more is known, which is that of one of its addresses, or of one of its mailboxes.
pub address_more : (found : RoutesFound) (goes : Bool) (remote mailboxes : List (List ℕ × Way)) (a : AddressParts) (way : Way) → AreByDomain found goes remote mailboxes
    → goes ≡ true → Means found way (route_of found.routing a) → AreByDomain found goes (remote ++ (a.domain, way) ∷ []) mailboxes
address_more found goes remote mailboxes a way by by_domains means = record {
  by_domain = by.by_domain;
  addresses = λ b other has. elim (pair_cases remote a.domain way b.domain other has) [
    | inl before ↦ by.addresses b other before
    | inr last ↦
        subst (λ (t : Way). Means found t (route_of found.routing b)) last.1
        (subst (λ (given : Result Route Unrouted). Means found way given) (by.by_domain by_domains a b (sym last.0)) means)
  ];
  at_mailboxes = by.at_mailboxes;
}

pub mailbox_more : (found : RoutesFound) (goes : Bool) (remote mailboxes : List (List ℕ × Way)) (a : AddressParts) (way : Way) → AreByDomain found goes remote mailboxes
    → Means found way (route_via_of found.routing found.via a) → AreByDomain found goes remote (mailboxes ++ (a.domain, way) ∷ [])
mailbox_more found goes remote mailboxes a way by means = record {
  by_domain = by.by_domain;
  addresses = by.addresses;
  at_mailboxes = λ b other has. elim (pair_cases mailboxes a.domain way b.domain other has) [
    | inl before ↦ by.at_mailboxes b other before
    | inr last ↦
        subst (λ (t : Way). Means found t (route_via_of found.routing found.via b)) last.1
        (subst (λ (d : List ℕ). Means found way (route_to found.routing found.via.transport (unwrap_or found.via.nexthop d))) (sym last.0) means)
  ];
}
