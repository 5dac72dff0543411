-- Places of items are those of the good ones.
use Rattle.std.proofs.Common.{◌≡◌, ℕ, ◌+◌, List, [], ◌∷◌, ◌++◌, map, Option, Some, None, refl, sym, ap, ◌∙◌}
use Rattle.std.specs.List.{filter_map, flat_map, cons_option}
use Rattle.std.proofs.lemmas.List.{map-append}
use Rattle.relay_text.specs.Lines.{kept_lines}
use Rattle.relay_text.specs.declared.lines.Line.{Line}
use Rattle.relay_aliasfile.specs.Items.{item_of, item_texts, good_items}
use Rattle.relay_aliasfile.specs.IncludeFiles.{items_in, include_file_of}
use Rattle.relay_aliasfile.specs.ItemPlaces.{item_at, place_if, places_from, places_in, line_places, include_places_of}
use Rattle.relay_aliasfile.specs.declared.item.Item.{Item}

are_from : (line item : ℕ) (texts : List (List ℕ)) → map item_at (places_from line item texts) ≡ map (λ (i : Item). Some i) (filter_map item_of texts)
are_from line item [] = refl
are_from line item (text ∷ texts) = at (item_of text) refl (are_from line (item + 1) texts) where
  at : (o : Option Item) → item_of text ≡ o → map item_at (places_from line (item + 1) texts) ≡ map (λ (i : Item). Some i) (filter_map item_of texts) → map item_at (place_if line item text o ++ places_from line (item + 1) texts) ≡ map (λ (i : Item). Some i) (cons_option o (filter_map item_of texts))
  at None e rest = rest
  at (Some good) e rest = ap (λ (o : Option Item). o ∷ map item_at (places_from line (item + 1) texts)) e ∙ ap (λ (os : List (Option Item)). Some good ∷ os) rest

pub places_are : (line : ℕ) (list : List ℕ) → map item_at (places_in line list) ≡ map (λ (i : Item). Some i) (good_items list)
unfolding places_in
places_are line list = are_from line 1 (item_texts list)

in_lines : (lines : List Line) → map item_at (flat_map line_places lines) ≡ map (λ (i : Item). Some i) (flat_map items_in lines)
in_lines [] = refl
in_lines (l ∷ ls) =
    map-append item_at (line_places l) (flat_map line_places ls)
    ∙ ap (λ (os : List (Option Item)). os ++ map item_at (flat_map line_places ls)) (places_are l.number l.text)
    ∙ ap (λ (os : List (Option Item)). map (λ (i : Item). Some i) (good_items l.text) ++ os) (in_lines ls)
    ∙ sym (map-append (λ (i : Item). Some i) (items_in l) (flat_map items_in ls))

pub include_places_are : (text : List ℕ) → map item_at (include_places_of text) ≡ map (λ (i : Item). Some i) (include_file_of text).items
unfolding include_places_of include_file_of
include_places_are text = in_lines (kept_lines text)
