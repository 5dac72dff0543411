use Rattle.std.proofs.Common.{length}
use Rattle.relay_job.specs.Places.{lines_at}
use Rattle.relay_job.proofs.SectionFacts.{Scanned}
use Rattle.relay_job.proofs.parts.Parts.take_all.Given as goal

abbrev pub invariant-loop-line : goal.invariant-loop-line
invariant-loop-line l = Scanned l.bytes (lines_at l.place) l.self l.started

abbrev pub decreases-loop-line : goal.decreases-loop-line
decreases-loop-line l = length l.place.rest.now
