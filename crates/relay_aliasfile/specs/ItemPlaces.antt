-- Where the good items of lists stand.
use Rattle.std.specs.Prelude.{◌≡◌, ℕ, ◌+◌, List, [], ◌∷◌, ◌++◌, flat_map, Option, Some, None, Contains}
use Rattle.relay_text.specs.Lines.{kept_lines}
use Rattle.relay_text.specs.declared.lines.Line.{Line}
use Rattle.relay_aliasfile.specs.Items.{item_of, item_texts, good_items}
use Rattle.relay_aliasfile.specs.AliasFiles.{Heading, heading_of}
use Rattle.relay_aliasfile.specs.declared.item.Item.{Item}
use Rattle.relay_aliasfile.specs.declared.entry.Entry.{Entry}
use Rattle.relay_aliasfile.specs.declared.places.ItemPlace.{ItemPlace}

-- the number of an item's line, its number in its list, and its text
pub record PlacedItem : Type 0 where
  pub line : ℕ
  pub item : ℕ
  pub text : List ℕ

abbrev pub place_value : ItemPlace → PlacedItem
place_value p = record { line = p.line; item = p.item; text = p.text.now }

-- the item that stands there
abbrev pub item_at : PlacedItem → Option Item
item_at p = item_of p.text

-- A text that is an item has a place; a bad one counts, and has none.
abbrev pub place_if : ℕ → ℕ → List ℕ → Option Item → List PlacedItem
place_if line item text None = []
place_if line item text (Some good) = record { line = line; item = item; text = text } ∷ []

-- the places of texts, of which the first has this number
abbrev pub places_from : ℕ → ℕ → List (List ℕ) → List PlacedItem
places_from line item [] = []
places_from line item (text ∷ texts) = place_if line item text (item_of text) ++ places_from line (item + 1) texts

-- the places of the good items of a list that stands at a line
unfoldable pub places_in : ℕ → List ℕ → List PlacedItem
places_in line list = places_from line 1 (item_texts list)

-- Each line of an include file that isn't ignored is a list by itself.
abbrev pub line_places : Line → List PlacedItem
line_places l = places_in l.number l.text

unfoldable pub include_places_of : List ℕ → List PlacedItem
include_places_of text = flat_map line_places (kept_lines text)

-- One of these logical lines is an entry's: it has the entry's number, its name and the list of its items.
pub record IsEntryLine (lines : List Line) (e : Entry) (l : Line) : Type 0 where
  pub there : Contains lines l
  pub number : l.number ≡ e.line
  pub heading : Heading
  pub headed : heading_of l.text ≡ Some heading
  pub name : heading.name ≡ e.name
  pub items : e.items ≡ good_items heading.list

-- the places of an entry's items on its line
pub record IsRowOf (lines : List Line) (e : Entry) (row : List PlacedItem) : Type 0 where
  pub line : Line
  pub on : IsEntryLine lines e line
  pub row_is : row ≡ places_in e.line on.heading.list
