use Rattle.std.proofs.lemmas.Result.{err_from_is_err_and}
use Rattle.relay_job.specs.JobParts.{commands_at, line_in}
use Rattle.relay_job.proofs.EnvelopeFacts.{RecipientsRead-named, RecipientsRead-refused, RecipientsRead-end}
use Rattle.relay_job.proofs.recipient_reading.read_recipients.Goals as goal

pub returns-in_err-add_recipient-clause-err : goal.returns-in_err-add_recipient-clause-err
returns-in_err-add_recipient-clause-err c =
    let p = err_from_is_err_and c.from_residual-in_err-add_recipient.result c.from_residual-in_err-add_recipient.ensures.1 in
    rw (p.1, p.2) (RecipientsRead-refused c.args.origin.now (commands_at c.args.section) (commands_at c.loop-command.place) (line_in c.in-Some.command) (commands_at c.in-Some.after) c.loop-command.recipients.items _ c.loop-command.invariant c.in-Some.ensures.lines c.in_err-add_recipient.ensures.err)

pub loop-command-preserved : goal.loop-command-preserved
loop-command-preserved c =
    RecipientsRead-named c.args.origin.now (commands_at c.args.section) (commands_at c.loop-command.place) (line_in c.in-Some.command) (commands_at c.in-Some.after) c.loop-command.recipients.items c.add_recipient.new.recipients.items c.loop-command.invariant c.in-Some.ensures.lines c.in_ok-add_recipient.ensures.ok

pub returns-clause-ok : goal.returns-clause-ok
returns-clause-ok c = RecipientsRead-end c.args.origin.now (commands_at c.args.section) (commands_at c.loop-command.place) c.loop-command.recipients.items c.loop-command.invariant c.in_default.ensures.none
