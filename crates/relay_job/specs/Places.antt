-- The lines that stand behind a place of a job.
use Rattle.std.specs.Prelude.{◌≡◌, ℕ, ◌+◌, false, List, map}
use Rattle.std.specs.List.{enumerate_from, list_any}
use Rattle.relay_text.specs.Lines.{raw_lines, cut_before}
use Rattle.relay_job.specs.declared.raw_line.RawLine.{RawLine}
use Rattle.relay_job.specs.declared.place.Place.{Place}
use Rattle.relay_job.specs.JobText.{JobLine, is_heading}

abbrev pub line_of : RawLine → JobLine
line_of l = record { number = l.number; raw = l.raw.now }

-- lines under their numbers
abbrev pub numbered_from : ℕ → List (List ℕ) → List JobLine
numbered_from number raws = map (λ p. record { number = p.0; raw = p.1 }) (enumerate_from number raws)

-- all lines behind a place
abbrev pub lines_at : Place → List JobLine
lines_at p = numbered_from (p.line + 1) (raw_lines p.rest.now)

-- the lines behind a place up to the next heading
abbrev pub content_at : Place → List JobLine
content_at p = (cut_before is_heading (lines_at p)).before

-- No line behind a place is a heading: its section goes on to the text's end.
abbrev pub IsWithinSection : Place → Type 0
IsWithinSection p = list_any is_heading (lines_at p) ≡ false
