use Rattle.relay_job.proofs.RecipientHalves.{front_ends}
use Rattle.relay_job.proofs.recipient_reading.front_len.Goals as goal

pub returns : goal.returns
returns c = front_ends c.args.len c.args.workers c.args.front c.requires.some c.requires.front
