use Rattle.std.proofs.Common.{◌∙◌, ap, subst, Option, Some}
use Rattle.std.proofs.lemmas.Result.{IfOk-weaker}
use Rattle.relay_routes.specs.declared.destination.Destination.{Destination}
use Rattle.relay_routes.specs.Destinations.{destination_of}
use Rattle.relay_routes.specs.Routes.{Answers}
use Rattle.relay_routes.specs.Routing.{Routing}
use Rattle.relay_explain.specs.declared.decision.Decision.{Decision}
use Rattle.relay_explain.specs.declared.rule.Rule.{Rule}
use Rattle.relay_planning.specs.Delivery.{routing_of}
use Rattle.aliasplan_explain.specs.Decisions.{decision_by, rule_for}
use Rattle.aliasplan_explain.proofs.deciding.remote_decision.Goals as goal

pub returns : goal.returns
returns c =
    let job = c.args.grounds.now.job.now in
    let a = c.args.address.now in
    let routed = subst (λ (r : Routing). Answers c.destination.result (destination_of r a)) c.requires.made.router c.destination.ensures in
    let to = c.in_ok-to.ensures (destination_of (routing_of job) a) routed in
    IfOk-weaker c.decision_by.result _ _
    (λ decision is. ap (λ (d : Decision). Some d) is ∙ ap (λ (r : Rule). Some (decision_by job r c.in_ok-to.to)) c.in_ok-rule.ensures ∙ ap (λ (o : Option Destination). Some (decision_by job (rule_for job a) o)) to)
    c.decision_by.ensures
