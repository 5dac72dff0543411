use Rattle.std.proofs.lemmas.Result.{IfOk-at_ok, IfOk-weaker}
use Rattle.relay_wire.specs.declared.plan.Plan.{Plan}
use Rattle.relay_planning.specs.Plans.{IsPlanOf, IsSoundFor}
use Rattle.aliasplan_explain.specs.Chains.{LeadToAsked}
use Rattle.aliasplan_explain.proofs.planned.side_by_side.Goals as goal

pub returns-clause-plan : goal.returns-clause-plan
returns-clause-plan g c =
    let job = c.args.grounds.now.job.now in
    IfOk-weaker c.both_or_fault.result _ _ (λ both are. (IfOk-at_ok (λ (plan : Plan). IsPlanOf job plan × IsSoundFor job plan.transactions) are.1 c.join-there.ensures.second.1.1).0) c.both_or_fault.ensures.both

pub returns-clause-sound : goal.returns-clause-sound
returns-clause-sound g c =
    let job = c.args.grounds.now.job.now in
    IfOk-weaker c.both_or_fault.result _ _ (λ both are. (IfOk-at_ok (λ (plan : Plan). IsPlanOf job plan × IsSoundFor job plan.transactions) are.1 c.join-there.ensures.second.1.1).1) c.both_or_fault.ensures.both

pub returns-clause-chains : goal.returns-clause-chains
returns-clause-chains g c =
    let grounds = c.args.grounds.now in
    IfOk-weaker c.both_or_fault.result _ _ (λ both are. IfOk-at_ok (LeadToAsked grounds.job.now grounds.basis.now.graph grounds.recipient_lines.now c.args.asked.now) are.0 c.join-there.ensures.first) c.both_or_fault.ensures.both
