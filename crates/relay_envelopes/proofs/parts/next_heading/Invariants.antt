use Rattle.std.proofs.Common.{length}
use Rattle.relay_job.specs.JobText.{is_heading}
use Rattle.relay_job.specs.Places.{lines_at}
use Rattle.relay_envelopes.proofs.SectionFacts.{IsPast}
use Rattle.relay_envelopes.proofs.parts.next_heading.Given as goal

abbrev pub invariant-loop-line : goal.invariant-loop-line
invariant-loop-line l = IsPast is_heading l.fn.place.rest.now l.next.rest.now (lines_at l.fn.place) (lines_at l.next)

abbrev pub decreases-loop-line : goal.decreases-loop-line
decreases-loop-line l = length l.next.rest.now
