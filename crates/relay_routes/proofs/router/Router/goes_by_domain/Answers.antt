use Rattle.std.proofs.Common.{◌∙◌, sym, ap}
use Rattle.std.proofs.lemmas.Bool.{not-true}
use Rattle.relay_routes.specs.Routing.{Routing}
use Rattle.relay_routes.specs.TableSteps.{has_address}
use Rattle.relay_routes.proofs.DestinationFacts.{destination_by_domain}
use Rattle.relay_routes.proofs.router.Router.goes_by_domain.Goals as goal

pub returns-clause-by_domain : goal.returns-clause-by_domain
returns-clause-by_domain c h a b =
    destination_by_domain c.args.self.now a b
    (sym (ap (λ (r : Routing). has_address r.transports.entries) c.self.view_is) ∙ sym c.has_addresses.ensures ∙ not-true c.has_addresses.result h)
