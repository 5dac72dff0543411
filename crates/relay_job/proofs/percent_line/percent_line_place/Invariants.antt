use Rattle.std.proofs.Common.{length}
use Rattle.relay_job.proofs.PercentLineFacts.{IsSearched}
use Rattle.relay_job.proofs.percent_line.percent_line_place.Given as goal

abbrev pub invariant-loop-place : goal.invariant-loop-place
invariant-loop-place l = IsSearched l.bytes l.rest

abbrev pub decreases-loop-place : goal.decreases-loop-place
decreases-loop-place l = length l.rest
