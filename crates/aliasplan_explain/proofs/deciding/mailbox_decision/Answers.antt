use Rattle.std.proofs.Common.{◌∙◌, ap, Option, Some}
use Rattle.std.proofs.lemmas.Result.{IfOk-weaker}
use Rattle.relay_routes.specs.declared.destination.Destination.{Destination}
use Rattle.relay_routes.specs.declared.via.Via.{Via}
use Rattle.relay_routes.specs.Destinations.{destination_via_of}
use Rattle.relay_explain.specs.declared.decision.Decision.{Decision}
use Rattle.relay_explain.specs.declared.rule.Rule.{Rule}
use Rattle.relay_explain.specs.declared.rule.Rule.TheVariants as rules
use Rattle.aliasplan_explain.specs.Decisions.{decision_by}
use Rattle.aliasplan_explain.proofs.deciding.mailbox_decision.Goals as goal

pub returns : goal.returns
returns c =
    let job = c.args.grounds.now.job.now in
    let via = job.settings.mailbox_transport in
    let rule = ap (λ (v : Via). rules.MailboxTransport v) c.in_ok-copy_of_via.ensures in
    let to = c.in_ok-to.ensures (destination_via_of via c.args.address.now) c.destination_via.ensures in
    IfOk-weaker c.decision_by.result _ _
    (λ decision is. ap (λ (d : Decision). Some d) is ∙ ap (λ (r : Rule). Some (decision_by job r c.in_ok-to.to)) rule ∙ ap (λ (o : Option Destination). Some (decision_by job (rules.MailboxTransport via) o)) to)
    c.decision_by.ensures
