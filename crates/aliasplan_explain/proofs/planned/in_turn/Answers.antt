use Rattle.relay_wire.specs.declared.plan.Plan.{Plan}
use Rattle.relay_planning.specs.Plans.{IsPlanOf, IsSoundFor}
use Rattle.aliasplan_explain.specs.Chains.{LeadToAsked}
use Rattle.aliasplan_explain.proofs.PairFacts.{first_is, second_is}
use Rattle.aliasplan_explain.proofs.planned.in_turn.Goals as goal

pub returns-clause-chains : goal.returns-clause-chains
returns-clause-chains g c =
    let grounds = c.args.grounds.now in
    first_is c.in_ok-chains.chains c.planned-plan.result c.with_or_fault.result (LeadToAsked grounds.job.now grounds.basis.now.graph grounds.recipient_lines.now c.args.asked.now) c.with_or_fault.ensures.both c.in_ok-chains.ensures

pub returns-clause-plan : goal.returns-clause-plan
returns-clause-plan g c = second_is c.in_ok-chains.chains c.planned-plan.result c.with_or_fault.result (λ (plan : Plan). IsPlanOf c.args.grounds.now.job.now plan) c.with_or_fault.ensures.both c.planned-plan.ensures.plan

pub returns-clause-sound : goal.returns-clause-sound
returns-clause-sound g c = second_is c.in_ok-chains.chains c.planned-plan.result c.with_or_fault.result (λ (plan : Plan). IsSoundFor c.args.grounds.now.job.now plan.transactions) c.with_or_fault.ensures.both c.planned-plan.ensures.sound
