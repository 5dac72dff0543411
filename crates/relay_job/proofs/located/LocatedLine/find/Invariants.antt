use Rattle.std.proofs.Common.{◌≡◌, ◌<◌, ◌+◌, ◌^◌, length}
use Rattle.relay_job.specs.JobText.{job_lines}
use Rattle.relay_job.specs.Places.{lines_at}
use Rattle.relay_job.specs.Reasons.{located}
use Rattle.relay_job.proofs.located.LocatedLine.find.Given as goal

-- The lines that were passed have other numbers.
abbrev pub invariant-loop-line : goal.invariant-loop-line
invariant-loop-line l = record {
  same : located l.number 0 (job_lines l.bytes) ≡ located l.number l.before (lines_at l.place);
  few : l.before + length l.place.rest.now < 2 ^ 64;
}

abbrev pub decreases-loop-line : goal.decreases-loop-line
decreases-loop-line l = length l.place.rest.now
