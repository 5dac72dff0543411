use Rattle.std.proofs.Common.{◌≡◌, Option, Some, subst, sym}
use Rattle.std.specs.Prelude.{IsSome}
use Rattle.relay_tables.specs.Directory.{Directory}
use Rattle.relay_explain.specs.declared.decision.Decision.{Decision}
use Rattle.relay_explain.specs.declared.target.Target.{Target}
use Rattle.relay_planning.specs.Delivery.{directory_of}
use Rattle.aliasplan_explain.specs.Decisions.{decision_of}
use Rattle.aliasplan_explain.specs.Targets.{target_at}
use Rattle.aliasplan_explain.proofs.PairFacts.{first_is, second_is}
use Rattle.aliasplan_explain.proofs.explaining.target_with_decision.Goals as goal

pub target_of-requires : goal.target_of-requires
target_of-requires c = subst (λ (d : Directory). IsSome (target_at d c.args.node.now)) (sym c.requires.made.tables) c.requires.target

pub returns-clause-target : goal.returns-clause-target
returns-clause-target c =
    first_is c.in_ok-target.target c.decision_of.result c.with_or_fault.result (λ (target : Target). target_at (directory_of c.args.grounds.now.job.now) c.args.node.now ≡ Some target) c.with_or_fault.ensures.both
    (subst (λ (d : Directory). target_at d c.args.node.now ≡ Some c.in_ok-target.target) c.requires.made.tables c.in_ok-target.ensures)

pub returns-clause-decision : goal.returns-clause-decision
returns-clause-decision c =
    second_is c.in_ok-target.target c.decision_of.result c.with_or_fault.result (λ (decision : Option Decision). decision ≡ decision_of c.args.grounds.now.job.now c.args.node.now) c.with_or_fault.ensures.both c.decision_of.ensures
