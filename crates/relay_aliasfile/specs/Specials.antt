-- Items that are no addresses.
use Rattle.std.specs.Prelude.{ℕ, Bool, not, ◌&&◌, List, [], ◌∷◌, Option, codes}
use Rattle.std.specs.List.{list_all}
use Rattle.relay_text.specs.Bytes.{begins_with, begins_with_word, first_of}
use Rattle.relay_text.specs.Addresses.{is_quotable, is_local_too_long, is_empty}
use Rattle.relay_aliasfile.specs.Items.{include_path, special_item, bracketed_item, address_item}
use Rattle.relay_aliasfile.specs.declared.item.Item.{Item}
use Rattle.relay_aliasfile.specs.declared.item.Item.TheVariants.{Include, Command, File}
use Rattle.relay_aliasfile.specs.declared.special.Special.{Special}
use Rattle.relay_aliasfile.specs.declared.special.Special.TheVariants.{Path, Program, Members}

-- what a text of a kind is
abbrev pub special_as : List ℕ → Special → Item
special_as text Path = File text
special_as text Program = Command text
special_as text Members = Include (include_path text)

abbrev pub is_include : List ℕ → Bool
is_include text = begins_with_word (codes ":include:") text && begins_with (codes "/") (include_path text)

-- what a text is that isn't one quoted string
abbrev pub plain_item : List ℕ → Option Item
plain_item text = first_of (special_item text ∷ bracketed_item text ∷ address_item text ∷ [])

-- whether a quoted string's content may be a local part
abbrev pub is_local_part : List ℕ → Bool
is_local_part content = not (is_empty content) && list_all is_quotable content && not (is_local_too_long content)
