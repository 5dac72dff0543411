use Rattle.std.proofs.Common.{◌≡◌, ◌+◌, ◌≤◌, ◌++◌, map, length}
use Rattle.relay_aliasfile.specs.Items.{item_texts}
use Rattle.relay_aliasfile.specs.ItemTexts.{texts_left}
use Rattle.relay_aliasfile.specs.ItemPlaces.{place_value, places_from, places_in}
use Rattle.relay_aliasfile.proofs.places.add_places.Given as goal

-- what was placed so far, with what the texts left give, is what all texts give
abbrev pub invariant-loop-text : goal.invariant-loop-text
invariant-loop-text l = record {
  counted : l.item + length (texts_left l.texts) ≤ length (item_texts l.list);
  placed : map place_value l.places.items ++ places_from l.line (l.item + 1) (texts_left l.texts) ≡ map place_value l.initial.places.items ++ places_in l.line l.list;
}

abbrev pub decreases-loop-text : goal.decreases-loop-text
decreases-loop-text l = length (texts_left l.texts)
