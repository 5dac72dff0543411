use Rattle.std.proofs.Common.{◌≡◌, sym, ap, subst}
use Rattle.std.specs.Prelude.{Some, None}
use Rattle.relay_destinations.specs.declared.way.Way.{Way}
use Rattle.relay_destinations.specs.Domains.{GoesByDomain}
use Rattle.relay_destinations.specs.RoutesFound.{RoutesFound}
use Rattle.relay_destinations.proofs.ByDomain.{routes_by_domain}
use Rattle.relay_destinations.proofs.destinations.Destinations.new.Goals as goal

none_known : {A : Type 0} (way : Way) → None ≡ Some way → A
none_known way h = absurd (let bad : ⊥ = cc in bad)

pub invariant_of-result : goal.invariant_of-result
invariant_of-result c =
    rw (c.in_ok-new-2.ensures, c.in_ok-new-3.ensures) (record {
      by_domain = λ by_domains.
          subst GoesByDomain (sym (ap (λ (found : RoutesFound). found.routing) c.in_ok-new.ensures))
          (routes_by_domain c.args.router.now (c.goes_by_domain.ensures.by_domain by_domains) (λ a. c.route_by_destination.ensures.of_address c.args.router.now a));
      addresses = λ a way has. none_known way has;
      at_mailboxes = λ a way has. none_known way has;
    })
