use Rattle.relay_aliasfile.proofs.TwinFacts.{AreMarkedPlaces}
use Rattle.relay_aliasfile.proofs.twins.twin_places.Given as goal

abbrev pub invariant-loop-place : goal.invariant-loop-place
invariant-loop-place l = AreMarkedPlaces l.slots l.hashes l.marks.items l.place l.places.items
