-- The paths of include items, each by its first place.
use Rattle.std.specs.Prelude.{ℕ, List, filter_map, Option, Some, None}
use Rattle.std.specs.Str.{bytes_eq}
use Rattle.relay_text.specs.Bytes.{firsts}
use Rattle.relay_aliasfile.specs.declared.item.Item.{Item}
use Rattle.relay_aliasfile.specs.declared.item.Item.TheVariants.{Bare, Full, Include, Command, File}

abbrev pub included_path : Item → Option (List ℕ)
included_path (Include path) = Some path
included_path (Bare name) = None
included_path (Full address) = None
included_path (Command text) = None
included_path (File path) = None

abbrev pub include_names_in : List Item → List (List ℕ)
include_names_in items = firsts bytes_eq (filter_map included_path items)
