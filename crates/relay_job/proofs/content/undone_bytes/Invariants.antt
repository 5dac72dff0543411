use Rattle.std.proofs.Common.{◌≡◌, ◌++◌, length}
use Rattle.std.specs.List.{flat_map}
use Rattle.relay_job.specs.JobText.{JobLine, content_of}
use Rattle.relay_job.specs.Places.{content_at}
use Rattle.relay_job.proofs.content.undone_bytes.Given as goal

-- The lines that were passed are copied.
abbrev pub invariant-loop-line : goal.invariant-loop-line
invariant-loop-line l = l.bytes.items ++ flat_map (λ (x : JobLine). content_of x.raw) (content_at l.place) ≡ flat_map (λ (x : JobLine). content_of x.raw) (content_at l.fn.section)

abbrev pub decreases-loop-line : goal.decreases-loop-line
decreases-loop-line l = length l.place.rest.now
