use Rattle.std.proofs.Common.{◌≡◌, ◌∙◌, List, ℕ, ap, sym, subst}
use Rattle.std.specs.Prelude.{Result}
use Rattle.relay_routes.specs.declared.unrouted.Unrouted.{Unrouted}
use Rattle.relay_routes.specs.Routing.{Routing}
use Rattle.relay_routes.specs.Routes.{Answers, exchangers_of}
use Rattle.relay_routes.proofs.FinderFacts.{found_at, answers_itself}
use Rattle.relay_routes.proofs.route_finder.RouteFinder.exchangers_of_domain.Goals as goal

pub returns-in-Some-clause-exchangers : goal.returns-in-Some-clause-exchangers
returns-in-Some-clause-exchangers c =
    let i = c.self.inside in
    let given : Result (List (List ℕ)) Unrouted = exchangers_of c.args.self.now c.args.domain.now in
    let at = found_at i.router.now i.domains.keys i.found.items c.self.invariant c.args.domain.now c.in-Some.number c.index.result.now (sym c.find.ensures ∙ c.in-Some.is) in
    let same : c.in_ok-copy_of.field-0 ≡ given =
    c.in_ok-copy_of.ensures ∙ c.index.ensures ∙ at.1 ∙ ap (λ (r : Routing). exchangers_of r c.args.domain.now) c.self.view_is in
    subst (λ (answer : Result (List (List ℕ)) Unrouted). Answers answer given) (sym same) (answers_itself given)
