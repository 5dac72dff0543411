-- The items of entries and include files where they stand in their sections.
use Rattle.std.specs.Prelude.{◌≡◌, ◌⊎◌, ℕ, ◌==◌, List, [], ◌∷◌, Contains, map, Option, Some, None, option_map, option_and_then, unwrap_or, slice_get}
use Rattle.std.specs.List.{find}
use Rattle.relay_text.specs.Lines.{logical_lines_of}
use Rattle.relay_text.specs.declared.lines.Line.{Line}
use Rattle.relay_aliasfile.specs.AliasFiles.{Heading, heading_of}
use Rattle.relay_aliasfile.specs.ItemPlaces.{PlacedItem, places_in, include_places_of}
use Rattle.relay_aliasfile.specs.declared.entry.Entry.{Entry as AliasEntry}
use Rattle.relay_tables.specs.declared.node.Node.{Node}
use Rattle.relay_tables.specs.declared.node.Node.TheVariants as nodes
use Rattle.relay_job.specs.declared.job.Job.{Job}
use Rattle.relay_job.specs.declared.job.JobInclude.{JobInclude}
use Rattle.relay_explain.specs.declared.entry.Entry.{Entry}
use Rattle.relay_explain.specs.declared.listed.Listed.{Listed}
use Rattle.relay_planning.specs.Delivery.{directory_of}
use Rattle.aliasplan_explain.specs.Targets.{entry_at}

-- the logical line of a number, and the list behind the name on it
abbrev pub line_at : List Line → ℕ → Option Line
line_at lines number = find (λ (l : Line). l.number == number) lines

abbrev pub list_on : Line → Option (List ℕ)
list_on l = option_map (λ (h : Heading). h.list) (heading_of l.text)

-- lines among which the one of a number is looked for: that one alone, or all
abbrev pub IsPartAt : List Line → ℕ → List Line → Type 0
IsPartAt lines number part = (part ≡ lines) ⊎ ((l : Line) × Contains lines l × (l.number ≡ number) × (part ≡ l ∷ []))

-- the places of an entry's items on its line
unfoldable pub entry_row : List Line → AliasEntry → List PlacedItem
entry_row lines e = unwrap_or (option_map (places_in e.line) (option_and_then list_on (line_at lines e.line))) []

abbrev pub entry_row_if : List Line → Option AliasEntry → List PlacedItem
entry_row_if lines None = []
entry_row_if lines (Some e) = entry_row lines e

abbrev pub include_row_if : Option JobInclude → List PlacedItem
include_row_if None = []
include_row_if (Some i) = include_places_of i.bytes

-- an item of an entry or include file, as an explanation tells it
abbrev pub listed_in : Entry → PlacedItem → Listed
listed_in entry p = record { entry = entry; line = p.line; item = p.item; text = p.text }

module _ (job : Job) where
  -- the places of a node's items, in their order
  abbrev pub row_of : Node → List PlacedItem
  row_of (nodes.Alias number) = entry_row_if (logical_lines_of job.aliases).lines (slice_get (directory_of job).aliases number)
  row_of (nodes.Include number) = include_row_if (slice_get job.includes number)
  row_of (nodes.Mailbox a) = []
  row_of (nodes.Remote a) = []
  row_of (nodes.Missing name) = []
  row_of (nodes.NoInclude path) = []
  row_of (nodes.Command text) = []
  row_of (nodes.File path) = []

  -- a node's items, in their order
  abbrev pub listed_by : Node → List Listed
  listed_by node = unwrap_or (option_map (λ entry. map (listed_in entry) (row_of node)) (entry_at (directory_of job) node)) []
