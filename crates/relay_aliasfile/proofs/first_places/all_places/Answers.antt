use Rattle.std.proofs.Common.{◌++◌, ◌∷◌, [], ap, ◌∙◌, sym, arith}
use Rattle.relay_aliasfile.proofs.FirstByTwins.{range_more}
use Rattle.relay_aliasfile.proofs.first_places.all_places.Goals as goal

pub loop-place-preserved : goal.loop-place-preserved
loop-place-preserved c = record {
  places = c.push_reserved.ensures.items ∙ ap (λ ps. ps ++ c.loop-place.place ∷ []) c.loop-place.invariant.places ∙ sym (range_more c.loop-place.place);
  room = omega (arith, c.loop-place.invariant.room, c.loop-place-test.true, c.push_reserved.ensures.len, c.push_reserved.ensures.capacity);
}
