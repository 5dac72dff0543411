-- What a reader of a list's items has left.
use Rattle.std.specs.Prelude.{ℕ, ◌==◌, List, [], ◌∷◌, Option, Some, None, if◌then◌else◌}
use Rattle.relay_aliasfile.specs.Items.{item_texts}
use Rattle.relay_aliasfile.specs.declared.item_text.ItemText.{ItemText}
use Rattle.relay_aliasfile.specs.declared.item_text.ItemText.TheVariants.{Plain, Other}
use Rattle.relay_aliasfile.specs.declared.item_texts.ItemTexts.{ItemTexts}

abbrev pub texts_left : ItemTexts → List (List ℕ)
texts_left texts = item_texts texts.rest.now

-- the bytes of an item's text
abbrev pub bytes_in : ItemText → List ℕ
bytes_in (Plain text) = text
bytes_in (Other text) = text.now

-- what follows an item that ends at a comma or at the end of its list
abbrev pub behind_comma : List ℕ → Option (List ℕ)
behind_comma [] = Some []
behind_comma (b ∷ bs) = if b == 44 then Some bs else None
