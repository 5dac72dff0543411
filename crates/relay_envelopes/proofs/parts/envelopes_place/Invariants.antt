use Rattle.std.proofs.Common.{length}
use Rattle.relay_job.specs.JobText.{job_lines}
use Rattle.relay_job.specs.Places.{lines_at}
use Rattle.relay_envelopes.specs.Sections.{begins_envelopes}
use Rattle.relay_envelopes.proofs.SectionFacts.{IsPast}
use Rattle.relay_envelopes.proofs.parts.envelopes_place.Given as goal

abbrev pub invariant-loop-line : goal.invariant-loop-line
invariant-loop-line l = IsPast begins_envelopes l.text l.place.rest.now (job_lines l.text) (lines_at l.place)

abbrev pub decreases-loop-line : goal.decreases-loop-line
decreases-loop-line l = length l.place.rest.now
