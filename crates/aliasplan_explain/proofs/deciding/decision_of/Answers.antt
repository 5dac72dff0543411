use Rattle.std.proofs.Common.{◌∙◌, ap, sym}
use Rattle.aliasplan_explain.specs.Decisions.{decision_of}
use Rattle.aliasplan_explain.proofs.deciding.decision_of.Goals as goal

pub returns-in_ok-mailbox_decision-in-Mailbox : goal.returns-in_ok-mailbox_decision-in-Mailbox
returns-in_ok-mailbox_decision-in-Mailbox c = c.in_ok-mailbox_decision-in-Mailbox.ensures ∙ sym (ap (decision_of c.args.grounds.now.job.now) c.in-Mailbox.is)

pub returns-in_ok-remote_decision-in-Remote : goal.returns-in_ok-remote_decision-in-Remote
returns-in_ok-remote_decision-in-Remote c = c.in_ok-remote_decision-in-Remote.ensures ∙ sym (ap (decision_of c.args.grounds.now.job.now) c.in-Remote.is)
