use Rattle.std.proofs.Common.{◌≡◌, Some}
use Rattle.relay_explain.specs.declared.asked.Asked.{Asked}
use Rattle.relay_explain.specs.declared.target.Target.{Target}
use Rattle.relay_planning.specs.Delivery.{directory_of}
use Rattle.aliasplan_explain.specs.Targets.{stands_for, target_at}
use Rattle.aliasplan_explain.proofs.PairFacts.{first_is, second_is}
use Rattle.aliasplan_explain.proofs.explaining.asked_with_target.Goals as goal

pub returns-clause-asked : goal.returns-clause-asked
returns-clause-asked c = first_is c.in_ok-copy.copy c.recipient_target.result c.with_or_fault.result (λ (asked : Asked). asked ≡ c.args.asked.now) c.with_or_fault.ensures.both c.in_ok-copy.ensures

pub returns-clause-stands : goal.returns-clause-stands
returns-clause-stands c =
    let d = directory_of c.args.grounds.now.job.now in
    second_is c.in_ok-copy.copy c.recipient_target.result c.with_or_fault.result (λ (target : Target). target_at d (stands_for d c.args.asked.now) ≡ Some target) c.with_or_fault.ensures.both c.recipient_target.ensures
