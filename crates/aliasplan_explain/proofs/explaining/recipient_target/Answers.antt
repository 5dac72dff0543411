use Rattle.relay_planning.specs.Delivery.{directory_of}
use Rattle.aliasplan_explain.proofs.TargetFacts.{stands_has_target}
use Rattle.aliasplan_explain.proofs.explaining.recipient_target.Goals as goal

pub target_of-requires : goal.target_of-requires
target_of-requires c =
    rw (c.requires.tables, c.in_ok-node.ensures) (stands_has_target (directory_of c.args.grounds.now.job.now) c.args.asked.now)
