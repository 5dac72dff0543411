-- What logical lines add to the entries and the faults that were gathered, where it's known which of their names are repeats.
use Rattle.std.specs.Prelude.{◌≡◌, ℕ, Bool, false, List, [], ◌∷◌, ◌++◌, map, drop, Option, Some, None, if◌then◌else◌, slice_index_or}
use Rattle.relay_text.specs.declared.lines.Line.{Line}
use Rattle.relay_text.specs.declared.lines.Lines.{Lines}
use Rattle.relay_halves.specs.Halves.{lines_behind}
use Rattle.relay_aliasfile.specs.AliasFiles.{Heading, heading_of, list_faults, orphan_fault}
use Rattle.relay_aliasfile.specs.Items.{good_items}
use Rattle.relay_aliasfile.specs.MailboxFiles.{fault}
use Rattle.relay_aliasfile.specs.declared.aliases.AliasFile.{AliasFile}
use Rattle.relay_aliasfile.specs.declared.entry.Entry.{Entry}
use Rattle.relay_aliasfile.specs.declared.fault.LineFault.{LineFault}
use Rattle.relay_aliasfile.specs.declared.fault.FaultKind.TheVariants.{BadLine, Duplicate}

abbrev pub new_entry : ℕ → Heading → Entry
new_entry line h = record { name = h.name; line = line; items = good_items h.list }

abbrev pub new_entries : Bool → ℕ → Option Heading → List Entry
new_entries is_repeat number None = []
new_entries is_repeat number (Some h) = if is_repeat then [] else (new_entry number h ∷ [])

abbrev pub new_faults : Bool → ℕ → Option Heading → List LineFault
new_faults is_repeat number None = fault number BadLine ∷ []
new_faults is_repeat number (Some h) = if is_repeat then (fault number Duplicate ∷ []) else list_faults number h.list

-- A list says of each name that is to come whether it's a repeat. A name past its end is none.
abbrev pub next_repeat : List Bool → Bool
next_repeat repeats = slice_index_or repeats 0 false

abbrev pub repeats_behind : Option Heading → List Bool → List Bool
repeats_behind None repeats = repeats
repeats_behind (Some h) repeats = drop 1 repeats

-- what lines add together, each by what the list says of its name
abbrev pub added_by : {Y : Type 0} → (Bool → ℕ → Option Heading → List Y) → List Bool → List Line → List Y
added_by new repeats [] = []
added_by new repeats (l ∷ ls) = new (next_repeat repeats) l.number (heading_of l.text) ++ added_by new (repeats_behind (heading_of l.text) repeats) ls

-- an alias file of these logical lines, of which these names are repeats
abbrev pub file_in : List Bool → Lines → AliasFile
file_in repeats cut = record { entries = added_by new_entries repeats cut.lines; faults = map orphan_fault cut.orphans ++ added_by new_faults repeats cut.lines }

-- the same of a text that so many lines of the file stand before
abbrev pub file_behind : ℕ → List Bool → List ℕ → AliasFile
file_behind passed repeats text = file_in repeats (lines_behind passed text)

-- This is the file of two parts, which are both there.
abbrev pub IsBoth : Option AliasFile → Option AliasFile → AliasFile → Type 0
IsBoth None there file = ⊥
IsBoth (Some first) None file = ⊥
IsBoth (Some first) (Some second) file = file ≡ record { entries = first.entries ++ second.entries; faults = first.faults ++ second.faults }
