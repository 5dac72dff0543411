use Rattle.std.proofs.Common.{◌≡◌, [], length, map}
use Rattle.relay_job.specs.Places.{lines_at, content_at}
use Rattle.relay_envelopes.specs.Envelopes.{section_in}
use Rattle.relay_envelopes.proofs.SectionFacts.{Scanned}
use Rattle.relay_envelopes.proofs.parts.find_envelopes.Given as goal

abbrev pub invariant-loop-heading : goal.invariant-loop-heading
invariant-loop-heading l = record {
  at_heading : content_at l.behind ≡ [];
  scanned : Scanned (lines_at l.fn.place) (lines_at l.behind) (map section_in l.sections.items) l.ids;
}

abbrev pub decreases-loop-heading : goal.decreases-loop-heading
decreases-loop-heading l = length l.behind.rest.now
