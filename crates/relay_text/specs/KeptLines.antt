-- What a reader of the kept lines has left.
use Rattle.std.specs.Prelude.{ℕ, ◌+◌, Bool, not, ◌&&◌, ◌==◌, nat_lt, List, length, map, filter, slice_index, option_to_list}
use Rattle.std.specs.List.{enumerate_from, list_any}
use Rattle.relay_text.specs.Lines.{physical_lines, is_ignored}
use Rattle.relay_text.specs.PlainTexts.{plain_front}
use Rattle.relay_text.specs.declared.lines.Line.{Line}
use Rattle.relay_text.specs.declared.kept.KeptLine.{KeptLine}
use Rattle.relay_text.specs.declared.kept.KeptLines.{KeptLines}
use Rattle.relay_text.specs.declared.kept.PlainLine.{PlainLine}

-- the lines of a text that aren't ignored, where the first line has this number
abbrev pub kept_from : ℕ → List ℕ → List Line
kept_from first text = filter (λ l. not (is_ignored l.text)) (map (λ p. record { number = p.0; text = p.1 }) (enumerate_from first (physical_lines text)))

-- the line that a reader lends
abbrev pub kept_line : KeptLine → Line
kept_line line = record { number = line.number; text = line.text.now }

-- the line that is a text without quotes
abbrev pub plain_line : PlainLine → Line
plain_line line = record { number = line.number; text = line.text }

-- the lines that a reader has left
abbrev pub kept_rest : KeptLines → List Line
kept_rest lines = kept_from (lines.passed + 1) lines.rest.now

-- whether a text at the front of some bytes is a line of its own, and no comment
abbrev pub is_line_of : List ℕ → List ℕ → Bool
is_line_of bytes text = nat_lt (length text) (length bytes) && (slice_index bytes (length text) == 10) && not (slice_index bytes 0 == 35)

-- whether some bytes begin with a line that is a text without quotes
abbrev pub begins_plain : List ℕ → Bool
begins_plain bytes = list_any (is_line_of bytes) (option_to_list (plain_front bytes))
