use Rattle.std.proofs.Common.{◌≡◌, take}
use Rattle.relay_aliasfile.specs.Twins.{texts_of, texts_at}
use Rattle.relay_aliasfile.proofs.first_places.firsts_among.Given as goal

abbrev pub invariant-loop-place : goal.invariant-loop-place
invariant-loop-place l = l.some ≡ texts_at (texts_of l.texts) (take l.place-index l.places)
