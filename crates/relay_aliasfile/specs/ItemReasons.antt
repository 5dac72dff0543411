-- Which rule the text of an item breaks.
use Rattle.std.specs.Prelude.{◌≡◌, ℕ, ◌+◌, ◌-◌, ◌%◌, ◌==◌, Bool, true, false, not, ◌&&◌, List, [], ◌∷◌, length, codes, slice_range, Option, Some, None, option_map, option_and_then, unwrap_or, Result, Ok, Err, if◌then◌else◌}
use Rattle.std.specs.List.{list_all, list_any, last_or}
use Rattle.relay_text.specs.Bytes.{begins_with, ends_with, begins_with_word}
use Rattle.relay_text.specs.Quotes.{quote_count, places_outside}
use Rattle.relay_text.specs.Addresses.{checked, local_cut, local_of, spelling_of, is_quotable, is_local_too_long, is_empty}
use Rattle.relay_text.specs.declared.fault.TextFault.{TextFault}
use Rattle.relay_text.specs.declared.fault.TextFault.TheVariants as faults
use Rattle.relay_aliasfile.specs.Items.{include_path, is_one_string, is_item_byte, is_well_quoted}
use Rattle.relay_aliasfile.specs.declared.reason.ItemReason.{ItemReason}
use Rattle.relay_aliasfile.specs.declared.reason.ItemReason.TheVariants.{Unprintable, OpenQuote, RelativePath, NoLocalPart, BadByte, BadQuote, BadDomain, TooLong}

-- `:include:`, in any case, and a path that doesn't begin with `/`
abbrev pub is_relative_include : List ℕ → Bool
is_relative_include text = begins_with_word (codes ":include:") text && not (begins_with (codes "/") (include_path text))

-- a text without the quotes around all of it
abbrev pub unquoted : List ℕ → List ℕ
unquoted text = if is_one_string text then local_of (local_cut text) else text

-- what stands between the last `<` outside quotes and a `>` at the end
abbrev pub inside_at : List ℕ → ℕ → List ℕ
inside_at text place = slice_range text (place + 1) (length text - 1)

abbrev pub in_brackets : List ℕ → Option (List ℕ)
in_brackets text = if ends_with (codes ">") text then option_map (inside_at text) (last_or None (places_outside 60 text)) else None

abbrev pub address_in : List ℕ → List ℕ
address_in text = unwrap_or (in_brackets text) text

-- The fault of an address's spelling, and of a name that stood between quotes.
abbrev pub fault_in : {A : Type 0} → Result A TextFault → Option TextFault
fault_in (Ok a) = None
fault_in (Err fault) = Some fault

abbrev pub spelling_fault : List ℕ → Option TextFault
spelling_fault text = fault_in (spelling_of text)

abbrev pub name_fault : List ℕ → Option TextFault
name_fault content = fault_in (checked {A = Unit {0}} ((is_empty content, faults.Empty) ∷ (not (list_all is_quotable content), faults.BadByte) ∷ (is_local_too_long content, faults.TooLong) ∷ []) tt)

-- The content of a quoted string is an address where it has an `@`, else a name.
abbrev pub content_fault : List ℕ → Option TextFault
content_fault content = if list_any (λ b. b == 64) content then spelling_fault content else name_fault content

-- the fault of a text that is read as an address or a name
abbrev pub address_fault : List ℕ → Option TextFault
address_fault text = if is_one_string text then content_fault (local_of (local_cut text)) else spelling_fault (address_in text)

-- What a text breaks. Each of these tells it from those before.
pub record IsMisspelled (text : List ℕ) (fault : TextFault) : Type 0 where
  pub well : is_well_quoted text ≡ true
  pub other : is_relative_include (unquoted text) ≡ false
  pub has : address_fault text ≡ Some fault

abbrev pub BreaksItem : List ℕ → ItemReason → Type 0
BreaksItem text Unprintable = list_all is_item_byte text ≡ false
BreaksItem text OpenQuote = (list_all is_item_byte text ≡ true) × ((quote_count text % 2 == 0) ≡ false)
BreaksItem text RelativePath = (is_well_quoted text ≡ true) × (is_relative_include (unquoted text) ≡ true)
BreaksItem text NoLocalPart = IsMisspelled text faults.Empty
BreaksItem text BadByte = IsMisspelled text faults.BadByte
BreaksItem text BadQuote = IsMisspelled text faults.BadQuote
BreaksItem text BadDomain = IsMisspelled text faults.BadDomain
BreaksItem text TooLong = IsMisspelled text faults.TooLong

-- a reason is there, and is broken
abbrev pub HasReason : List ℕ → Option ItemReason → Type 0
HasReason text None = ⊥
HasReason text (Some reason) = BreaksItem text reason

-- how the reason is found: of what is no file, command or include file, by its fault as an address or a name
abbrev pub reason_of : TextFault → Option ItemReason
reason_of faults.Empty = Some NoLocalPart
reason_of faults.BadByte = Some BadByte
reason_of faults.BadQuote = Some BadQuote
reason_of faults.BadDomain = Some BadDomain
reason_of faults.TooLong = Some TooLong
reason_of faults.Memory = None

abbrev pub form_reason : List ℕ → Option TextFault → Option ItemReason
form_reason text fault = if is_relative_include text then Some RelativePath else option_and_then reason_of fault
