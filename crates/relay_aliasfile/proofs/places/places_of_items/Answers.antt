use Rattle.relay_aliasfile.proofs.PlacedItems.{places_are, include_places_are}
use Rattle.relay_aliasfile.proofs.places.places_of_items.Goals as goal

pub returns-clause-of_list : goal.returns-clause-of_list
returns-clause-of_list c = places_are

pub returns-clause-of_include : goal.returns-clause-of_include
returns-clause-of_include c = include_places_are
