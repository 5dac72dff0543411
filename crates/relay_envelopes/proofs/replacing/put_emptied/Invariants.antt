use Rattle.std.proofs.Common.{◌≡◌, ◌++◌, false, length}
use Rattle.relay_job.specs.JobText.{job_lines}
use Rattle.relay_job.specs.Places.{lines_at}
use Rattle.relay_envelopes.specs.Replaced.{emptied}
use Rattle.relay_envelopes.proofs.replacing.put_emptied.Given as goal

-- what is put, and what is still to be put, is the whole
abbrev pub invariant-loop-line : goal.invariant-loop-line
invariant-loop-line l = l.out.items ++ emptied l.is_within (lines_at l.place) ≡ l.initial.out.items ++ emptied false (job_lines l.text)

abbrev pub decreases-loop-line : goal.decreases-loop-line
decreases-loop-line l = length l.place.rest.now
