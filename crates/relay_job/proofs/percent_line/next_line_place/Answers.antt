use Rattle.relay_job.proofs.PercentLineFacts.{next_line, no_next_line}
use Rattle.relay_job.proofs.PlaceCuts.{next_line_ends}
use Rattle.relay_job.proofs.percent_line.next_line_place.Goals as goal

pub returns-in-Some-clause-passed : goal.returns-in-Some-clause-passed
returns-in-Some-clause-passed c = next_line c.args.bytes.now c.args.place c.in-Some.len c.in-Some.ensures

pub returns-in-Some-clause-begins : goal.returns-in-Some-clause-begins
returns-in-Some-clause-begins c = λ inside. next_line_ends c.args.bytes.now c.args.place c.in-Some.len c.in-Some.ensures

pub returns-in-None-clause-passed : goal.returns-in-None-clause-passed
returns-in-None-clause-passed c = no_next_line c.args.bytes.now c.args.place c.requires c.in-None.ensures
