use Rattle.std.proofs.Common.{◌≡◌, map, take}
use Rattle.relay_job.specs.SectionPlaces.{include_at}
use Rattle.relay_job.proofs.include_place.read_includes.Given as goal

-- The files that were passed are read.
abbrev pub invariant-loop-place : goal.invariant-loop-place
invariant-loop-place l = l.includes.items ≡ map include_at (take l.place-index l.places)
