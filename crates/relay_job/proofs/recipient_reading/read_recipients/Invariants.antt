use Rattle.std.proofs.Common.{length}
use Rattle.relay_job.specs.JobParts.{commands_at}
use Rattle.relay_job.proofs.EnvelopeFacts.{RecipientsRead}
use Rattle.relay_job.proofs.recipient_reading.read_recipients.Given as goal

abbrev pub invariant-loop-command : goal.invariant-loop-command
invariant-loop-command l = RecipientsRead l.origin (commands_at l.fn.section) (commands_at l.place) l.recipients.items

abbrev pub decreases-loop-command : goal.decreases-loop-command
decreases-loop-command l = length l.place.rest.now
