use Rattle.relay_job.proofs.RecipientLineFacts.{lines_fit}
use Rattle.relay_job.proofs.recipients.each_recipient_has_line.Goals as goal

pub returns : goal.returns
returns c = lines_fit
