-- The items of a list (aliases(5) of Postfix, "local_part: value, .."; local(8)): addresses, `:include:/path`, `|command`, `/file`.
use Rattle.std.specs.Prelude.{ℕ, ◌+◌, ◌-◌, ◌%◌, Bool, not, ◌&&◌, ◌||◌, ◌==◌, nat_lt, List, [], ◌∷◌, length, drop, map, filter, filter_map, codes, slice_range, Option, Some, None, is_none, option_map, option_and_then, if◌then◌else◌}
use Rattle.std.specs.List.{list_all, list_any, last_or}
use Rattle.std.specs.Int.{is_in_range}
use Rattle.std.specs.Result.{result_ok}
use Rattle.relay_text.specs.Bytes.{trimmed, trimmed_end, begins_with, ends_with, begins_with_word, first_of}
use Rattle.relay_text.specs.Quotes.{quote_count, places_outside, pieces_outside}
use Rattle.relay_text.specs.Addresses.{Spelled, local_cut, local_of, spelling_of, is_quotable, is_local_too_long, is_empty}
use Rattle.relay_aliasfile.specs.declared.item.Item.{Item}
use Rattle.relay_aliasfile.specs.declared.item.Item.TheVariants.{Bare, Full, Include, Command, File}

-- A list is cut at its commas that stand outside quotes. Each piece is trimmed, and those that are then empty are no items.
abbrev pub is_text : List ℕ → Bool
is_text text = not (is_empty text)

abbrev pub item_texts : List ℕ → List (List ℕ)
item_texts list = filter is_text (map trimmed (pieces_outside 44 list))

-- `/path` is a file, `|` with at least one more byte a command, `:include:/path`, in any case, an include file: white space at
-- the path's end is dropped.
abbrev pub include_path : List ℕ → List ℕ
include_path text = trimmed_end (drop 9 text)

abbrev pub special_item : List ℕ → Option Item
special_item text =
    if begins_with (codes "/") text then Some (File text)
    else (if begins_with (codes "|") text && nat_lt 1 (length text) then Some (Command text)
    else (if begins_with_word (codes ":include:") text && begins_with (codes "/") (include_path text) then Some (Include (include_path text))
    else None))

-- An address with a domain, or a bare name without one.
abbrev pub item_at : List ℕ → Option (List ℕ) → Item
item_at local None = Bare local
item_at local (Some domain) = Full (record { local = local; domain = domain })

abbrev pub spelled_item : Spelled → Item
spelled_item s = item_at s.local s.domain

abbrev pub address_item : List ℕ → Option Item
address_item text = option_map spelled_item (result_ok (spelling_of text))

-- the bare name of a quoted string's content: its bytes are the local part as they stand
abbrev pub quoted_name : List ℕ → Option Item
quoted_name content = if not (is_empty content) && list_all is_quotable content && not (is_local_too_long content) then Some (Bare content) else None

-- A text that is wholly one quoted string stands for its content: a file, command or include file where it has that form, else a
-- bare name, or where it has an `@` an address.
abbrev pub is_one_string : List ℕ → Bool
is_one_string text = (local_cut text).quoted && (local_cut text).closed && is_empty (local_cut text).rest

abbrev pub named_item : List ℕ → Option Item
named_item content = if list_any (λ b. b == 64) content then address_item content else quoted_name content

abbrev pub content_item : List ℕ → Option Item
content_item content = first_of (special_item content ∷ named_item content ∷ [])

-- A text that ends with `>` stands for the address between it and the last `<` that stands outside quotes.
abbrev pub bracketed_at : List ℕ → ℕ → Option Item
bracketed_at text place = address_item (slice_range text (place + 1) (length text - 1))

abbrev pub bracketed_item : List ℕ → Option Item
bracketed_item text = if ends_with (codes ">") text then option_and_then (bracketed_at text) (last_or None (places_outside 60 text)) else None

-- Tab, space and the bytes that print may stand in an item, and an even number of unescaped `"`.
abbrev pub is_item_byte : ℕ → Bool
is_item_byte b = (b == 9) || is_in_range 32 126 b

abbrev pub is_well_quoted : List ℕ → Bool
is_well_quoted text = list_all is_item_byte text && (quote_count text % 2 == 0)

-- The item that a text is: the first kind that fits, or none.
unfoldable pub item_of : List ℕ → Option Item
item_of text =
    if not (is_well_quoted text) then None
    else (if is_one_string text then content_item (local_of (local_cut text))
    else first_of (special_item text ∷ bracketed_item text ∷ address_item text ∷ []))

abbrev pub good_items : List ℕ → List Item
good_items list = filter_map item_of (item_texts list)

abbrev pub is_bad : List ℕ → Bool
is_bad text = is_none (item_of text)

abbrev pub bad_items : List ℕ → List (List ℕ)
bad_items list = filter is_bad (item_texts list)
