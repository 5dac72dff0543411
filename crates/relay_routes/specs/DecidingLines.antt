-- The line of a transport table that decides where an address goes.
use Rattle.std.specs.Prelude.{ℕ, List, map, filter_map, Option, Some, None, option_map, if◌then◌else◌}
use Rattle.std.specs.Str.{bytes_eq}
use Rattle.relay_text.specs.Bytes.{first_of}
use Rattle.relay_text.specs.Lines.{logical_lines_of}
use Rattle.relay_text.specs.AddressParts.{AddressParts}
use Rattle.relay_text.specs.declared.lines.Line.{Line}
use Rattle.relay_routes.specs.declared.transport_line.TransportLine.{TransportLine}
use Rattle.relay_routes.specs.declared.deciding.DecidingLine.{DecidingLine}
use Rattle.relay_routes.specs.Transports.{line_of, keys_of}

-- a logical line that is a pattern and a result, under its number
abbrev pub numbered : ℕ → TransportLine → DecidingLine
numbered number e = record { line = number; pattern = e.pattern; result = e.result }

abbrev pub good_line_in : Line → Option DecidingLine
good_line_in l = option_map (numbered l.number) (line_of l.text)

abbrev pub result_of : DecidingLine → List ℕ
result_of l = l.result

-- the first line of a pattern
abbrev pub line_at : List DecidingLine → List ℕ → Option DecidingLine
line_at lines pattern = first_of (map (λ l. if bytes_eq l.pattern pattern then Some l else None) lines)

abbrev pub first_line_at : List DecidingLine → List (List ℕ) → Option DecidingLine
first_line_at lines keys = first_of (map (line_at lines) keys)

-- the first line of the first key that some line has as its pattern
unfoldable pub deciding_line_of : List ℕ → AddressParts → Option ℕ → Option DecidingLine
deciding_line_of table a delimiter = first_line_at (filter_map good_line_in (logical_lines_of table).lines) (keys_of a delimiter)
