use Rattle.std.proofs.Common.{ℕ, ◌≤◌, ◌++◌, List, length, map, ap, arith}
use Rattle.relay_aliasfile.specs.Items.{item_texts}
use Rattle.relay_aliasfile.specs.ItemPlaces.{place_value, places_from, places_in}
use Rattle.relay_aliasfile.proofs.FileSizes.{length-item_texts}
use Rattle.relay_aliasfile.proofs.places.add_places.Goals as goal

pub loop-text-init : goal.loop-text-init
unfolding places_in
loop-text-init c = record {
  counted = omega (arith, ap length c.new-texts.ensures);
  placed = ap (λ (texts : List (List ℕ)). map place_value c.args.places.now.items ++ places_from c.args.line 1 texts) c.new-texts.ensures;
}

pub overflow_add-item : goal.overflow_add-item
overflow_add-item c =
    let cut = ap length c.in-Some.ensures.some in
    let short : length (item_texts c.args.list.now) ≤ length c.args.list.now = length-item_texts c.args.list.now in
    omega (arith, cut, short)
