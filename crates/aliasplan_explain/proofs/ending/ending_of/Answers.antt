use Rattle.aliasplan_explain.proofs.EndingFacts.{mailbox_ending, remote_ending}
use Rattle.aliasplan_explain.proofs.ending.ending_of.Goals as goal

pub returns-in-Mailbox : goal.returns-in-Mailbox
returns-in-Mailbox c =
    let grounds = c.args.grounds.now in
    mailbox_ending grounds.job.now c.args.plan.now c.args.node.now c.in-Mailbox.address grounds.basis.now.lookup.router c.route_via.result c.ending_by.result c.in-Mailbox.is c.requires.made.router c.route_via.ensures c.ending_by.ensures

pub returns-in-Remote : goal.returns-in-Remote
returns-in-Remote c =
    let grounds = c.args.grounds.now in
    remote_ending grounds.job.now c.args.plan.now c.args.node.now c.in-Remote.address grounds.basis.now.lookup.router c.route.result c.ending_by-in-Remote.result c.in-Remote.is c.requires.made.router c.route.ensures c.ending_by-in-Remote.ensures
