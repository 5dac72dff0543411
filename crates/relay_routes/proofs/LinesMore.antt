-- What one more line adds to the lines of a transport table.
use Rattle.std.proofs.Common.{◌≡◌, ℕ, ◌+◌, List, [], ◌∷◌, ◌++◌, map, append_assoc, Option, Some, None}
use Rattle.std.specs.Prelude.{filter_map, flat_map, option_to_list}
use Rattle.std.specs.List.{cons_option}
use Rattle.relay_text.specs.declared.lines.Line.{Line}
use Rattle.relay_halves.specs.Halves.{moved}
use Rattle.relay_routes.specs.declared.fault.LineFault.{LineFault}
use Rattle.relay_routes.specs.declared.transport_line.TransportLine.{TransportLine}
use Rattle.relay_routes.specs.PatternLines.{entry_of, bad_line, bad_in}
use Rattle.relay_routes.specs.Transports.{line_of}

pub entries_more : (passed : ℕ) (entries : List TransportLine) (l : Line) (lines : List Line)
    → (entries ++ option_to_list (line_of l.text)) ++ filter_map entry_of (map (moved passed) lines) ≡ entries ++ filter_map entry_of (map (moved passed) (l ∷ lines))
entries_more passed entries l lines = at (line_of l.text) where
  more : List TransportLine
  more = filter_map entry_of (map (moved passed) lines)

  at : (o : Option TransportLine) → (entries ++ option_to_list o) ++ more ≡ entries ++ cons_option o more
  at None = append_assoc entries [] more
  at (Some e) = append_assoc entries (e ∷ []) more

pub faults_more : (passed : ℕ) (faults : List LineFault) (l : Line) (lines : List Line)
    → (faults ++ bad_line (passed + l.number) (line_of l.text)) ++ flat_map bad_in (map (moved passed) lines) ≡ faults ++ flat_map bad_in (map (moved passed) (l ∷ lines))
faults_more passed faults l lines = append_assoc faults (bad_line (passed + l.number) (line_of l.text)) (flat_map bad_in (map (moved passed) lines))
