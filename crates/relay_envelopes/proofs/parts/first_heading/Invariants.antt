use Rattle.std.proofs.Common.{◌≡◌, ◌≤◌, ℕ, false, List, length}
use Rattle.relay_job.specs.Places.{lines_at}
use Rattle.relay_envelopes.specs.Sections.{envelopes_of}
use Rattle.relay_envelopes.specs.Envelopes.{bad_behind}
use Rattle.relay_envelopes.proofs.parts.first_heading.Given as goal

abbrev pub invariant-loop-line : goal.invariant-loop-line
invariant-loop-line l = record {
  sections : envelopes_of (lines_at l.fn.place) ≡ envelopes_of (lines_at l.first);
  unbroken : (ids : List (List ℕ)) → bad_behind false ids (lines_at l.fn.place) ≡ bad_behind false ids (lines_at l.first);
  no_longer : length l.first.rest.now ≤ length l.fn.place.rest.now;
}

abbrev pub decreases-loop-line : goal.decreases-loop-line
decreases-loop-line l = length l.first.rest.now
