use Rattle.relay_text.proofs.Firsts.{AreFound}
use Rattle.relay_text.proofs.first_places.FirstPlaces.find.Given as goal

abbrev pub invariant-loop-index : goal.invariant-loop-index
invariant-loop-index l = AreFound l.fn.self l.text-items l.places.items l.first l.index
