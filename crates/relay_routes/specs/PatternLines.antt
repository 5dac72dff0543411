-- What the lines of a transport table say, before later lines of one pattern are dropped.
use Rattle.std.specs.Prelude.{◌≡◌, ℕ, List, [], ◌∷◌, ◌++◌, map, Option, Some, None, filter_map, flat_map}
use Rattle.relay_text.specs.declared.lines.Line.{Line}
use Rattle.relay_halves.specs.Halves.{lines_behind}
use Rattle.relay_routes.specs.Transports.{line_of, fault}
use Rattle.relay_routes.specs.declared.fault.FaultKind.TheVariants.{BadLine}
use Rattle.relay_routes.specs.declared.fault.LineFault.{LineFault}
use Rattle.relay_routes.specs.declared.pattern_lines.PatternLines.{PatternLines}
use Rattle.relay_routes.specs.declared.transport_line.TransportLine.{TransportLine}

-- the pattern and result on a line
abbrev pub entry_of : Line → Option TransportLine
entry_of l = line_of l.text

-- what is wrong with a line of this number and entry
abbrev pub bad_line : ℕ → Option TransportLine → List LineFault
bad_line number None = fault number BadLine ∷ []
bad_line number (Some e) = []

abbrev pub bad_in : Line → List LineFault
bad_in l = bad_line l.number (line_of l.text)

-- the faults of lines that continue none
abbrev pub orphan_faults : List ℕ → List LineFault
orphan_faults orphans = map (λ number. fault number BadLine) orphans

-- These are the entries and the faults of a text, where so many lines of the table stand before it.
pub record AreRead (passed : ℕ) (text : List ℕ) (lines : PatternLines) : Type 0 where
  pub entries : lines.entries.items ≡ filter_map entry_of (lines_behind passed text).lines
  pub faults : lines.faults.items ≡ orphan_faults (lines_behind passed text).orphans ++ flat_map bad_in (lines_behind passed text).lines

-- These are the entries and the faults of two parts.
abbrev pub AreBoth : PatternLines → PatternLines → PatternLines → Type 0
AreBoth first second lines = (lines.entries.items ≡ first.entries.items ++ second.entries.items) × (lines.faults.items ≡ first.faults.items ++ second.faults.items)
