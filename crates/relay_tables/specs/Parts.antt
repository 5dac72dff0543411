-- What the names and items of alias and include files are: local parts within their limits (RFC 5321 section 4.5.3.1.1).
use Rattle.std.specs.Prelude.{ℕ, Bool, true, not, ◌&&◌, List}
use Rattle.std.specs.List.{list_all}
use Rattle.relay_text.specs.Addresses.{is_empty, is_quotable, is_local_too_long}
use Rattle.relay_aliasfile.specs.declared.item.Item.{Item}
use Rattle.relay_aliasfile.specs.declared.item.Item.TheVariants.{Bare, Full, Include, Command, File}
use Rattle.relay_aliasfile.specs.declared.entry.Entry.{Entry}
use Rattle.relay_tables.specs.declared.include_entry.IncludeEntry.{IncludeEntry}

-- a local part, without quotes and escapes, that an address at an origin can have
unfoldable pub is_local_part : List ℕ → Bool
is_local_part local = not (is_empty local) && list_all is_quotable local && not (is_local_too_long local)

-- a bare item is a local part
abbrev pub is_good_item : Item → Bool
is_good_item (Bare name) = is_local_part name
is_good_item (Full a) = true
is_good_item (Include path) = true
is_good_item (Command text) = true
is_good_item (File path) = true

-- a name is a local part, and so is each bare item
abbrev pub is_good_entry : Entry → Bool
is_good_entry e = is_local_part e.name && list_all is_good_item e.items

abbrev pub is_good_include : IncludeEntry → Bool
is_good_include e = list_all is_good_item e.items
