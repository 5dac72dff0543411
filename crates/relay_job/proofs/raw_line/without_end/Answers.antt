use Rattle.relay_job.proofs.LineEndFacts.{text_of_ended}
use Rattle.relay_job.proofs.raw_line.without_end.Goals as goal

pub returns : goal.returns
returns c = text_of_ended c.args.line.now c.without_byte.result.now c.without_byte-2.result.now c.requires c.without_byte.ensures c.without_byte-2.ensures
