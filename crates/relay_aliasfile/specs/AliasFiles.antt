-- Alias files (aliases(5) of Postfix): entries, each on a logical line.
use Rattle.std.specs.Prelude.{ℕ, ◌+◌, Bool, List, [], ◌∷◌, ◌++◌, map, filter_map, flat_map, take, drop, Option, Some, None, option_map, option_and_then, if◌then◌else◌, slice_get}
use Rattle.relay_text.specs.Bytes.{trimmed_end, each_after, has_text}
use Rattle.relay_text.specs.Quotes.{places_outside}
use Rattle.relay_text.specs.Lines.{logical_lines_of}
use Rattle.relay_text.specs.Addresses.{is_empty}
use Rattle.relay_text.specs.declared.lines.Line.{Line}
use Rattle.relay_aliasfile.specs.Items.{item_texts, good_items}
use Rattle.relay_aliasfile.specs.IncludeFiles.{bad_item_faults}
use Rattle.relay_aliasfile.specs.MailboxFiles.{folded_name_of, fault}
use Rattle.relay_aliasfile.specs.declared.item.Item.{Item}
use Rattle.relay_aliasfile.specs.declared.entry.Entry.{Entry}
use Rattle.relay_aliasfile.specs.declared.fault.LineFault.{LineFault}
use Rattle.relay_aliasfile.specs.declared.fault.FaultKind.TheVariants.{BadLine, Duplicate, Empty}
use Rattle.relay_aliasfile.specs.declared.aliases.AliasFile.{AliasFile}

-- An entry is a name, white space or none, a colon that stands outside quotes, and a list. The name is folded.
pub record Heading : Type 0 where
  pub name : List ℕ
  pub list : List ℕ

abbrev pub heading_with : List ℕ → List ℕ → Heading
heading_with list name = record { name = name; list = list }

abbrev pub heading_at : List ℕ → ℕ → Option Heading
heading_at text colon = option_map (heading_with (drop (colon + 1) text)) (folded_name_of (trimmed_end (take colon text)))

unfoldable pub heading_of : List ℕ → Option Heading
heading_of text = option_and_then (heading_at text) (slice_get (places_outside 58 text) 0)

-- the name of a line's entry, and whether one of these lines has an entry of this name
abbrev pub heading_name : Heading → List ℕ
heading_name h = h.name

abbrev pub name_in : Line → Option (List ℕ)
name_in l = option_map heading_name (heading_of l.text)

abbrev pub has_entry : List Line → List ℕ → Bool
has_entry lines name = has_text (filter_map name_in lines) name

-- The first entry of a name holds: a later one is a duplicate, whose list isn't read.
abbrev pub entry_of : List Line → Line → Option Heading → List Entry
entry_of earlier l None = []
entry_of earlier l (Some h) = if has_entry earlier h.name then [] else (record { name = h.name; line = l.number; items = good_items h.list } ∷ [])

abbrev pub entry_in : List Line → Line → List Entry
entry_in earlier l = entry_of earlier l (heading_of l.text)

-- what is wrong with a list
abbrev pub list_faults : ℕ → List ℕ → List LineFault
list_faults line list = if is_empty (item_texts list) then (fault line Empty ∷ []) else bad_item_faults line list

abbrev pub faults_of : List Line → Line → Option Heading → List LineFault
faults_of earlier l None = fault l.number BadLine ∷ []
faults_of earlier l (Some h) = if has_entry earlier h.name then (fault l.number Duplicate ∷ []) else list_faults l.number h.list

abbrev pub faults_in : List Line → Line → List LineFault
faults_in earlier l = faults_of earlier l (heading_of l.text)

-- a line that continues no logical line
abbrev pub orphan_fault : ℕ → LineFault
orphan_fault number = fault number BadLine

unfoldable pub alias_file_of : List ℕ → AliasFile
alias_file_of text = let cut = logical_lines_of text in
    record { entries = each_after entry_in [] cut.lines; faults = map orphan_fault cut.orphans ++ each_after faults_in [] cut.lines }

-- the items of all entries
abbrev pub items_in : Entry → List Item
items_in e = e.items

abbrev pub entry_items : List Entry → List Item
entry_items entries = flat_map items_in entries
