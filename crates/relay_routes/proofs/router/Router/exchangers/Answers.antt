use Rattle.std.proofs.Common.{◌∙◌, ap, subst}
use Rattle.relay_routes.specs.Routing.{Routing}
use Rattle.relay_routes.specs.Routes.{Answers, exchangers_of}
use Rattle.relay_routes.proofs.OwnNames.{hosts_of-same}
use Rattle.relay_routes.proofs.router.Router.exchangers.Goals as goal

pub returns : goal.returns
returns c =
    let inside = c.self.inside in
    let same = hosts_of-same inside.exchanges c.args.domain.now inside.own_names inside.settings.own_names inside.settings.seed c.self.invariant in
    subst (λ given. Answers c.hosts_beside.result given) (same ∙ ap (λ (r : Routing). exchangers_of r c.args.domain.now) c.self.view_is) c.hosts_beside.ensures
