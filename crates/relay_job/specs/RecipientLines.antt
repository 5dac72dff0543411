-- The lines of an envelope's recipients in its section.
use Rattle.std.specs.Prelude.{ℕ, ◌-◌, List, map, drop}
use Rattle.relay_text.specs.declared.lines.Line.{Line}
use Rattle.relay_job.specs.JobText.{envelope_part, envelope_lines, heading_number}

-- the numbers of lines behind the heading of a number
abbrev pub numbers_behind : ℕ → List Line → List ℕ
numbers_behind heading lines = map (λ l. l.number - heading) lines

-- The first line that isn't of white space alone is the sender's, and each later one a recipient's.
unfoldable pub recipient_lines_of : List ℕ → List ℕ
recipient_lines_of text = numbers_behind (heading_number (envelope_part text)) (drop 1 (envelope_lines (envelope_part text)))
