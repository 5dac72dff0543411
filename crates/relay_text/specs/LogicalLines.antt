-- Logical lines that are read one after another.
use Rattle.std.specs.Prelude.{◌≡◌, ⊤, true, List, [], ◌++◌, flat_map, Option, Some, None, option_map, option_to_list}
use Rattle.relay_text.specs.Lines.{begins_logical_line, cut_before, joined}
use Rattle.relay_text.specs.KeptLines.{kept_line, kept_rest}
use Rattle.relay_text.specs.declared.kept.KeptLine.{KeptLine}
use Rattle.relay_text.specs.declared.kept.KeptLines.{KeptLines}
use Rattle.relay_text.specs.declared.lines.Line.{Line}
use Rattle.relay_text.specs.declared.logical.LogicalLine.{LogicalLine}

-- the line that is lent
abbrev pub logical_line : LogicalLine → Line
logical_line l = record { number = l.number; text = l.text.now }

-- the logical lines of kept lines
abbrev pub lines_in : List Line → List Line
lines_in kept = flat_map joined (cut_before begins_logical_line kept).pieces

-- the kept lines that are left, of which the first may have been read
abbrev pub kept_left : Option KeptLine → KeptLines → List Line
kept_left first kept = option_to_list (option_map kept_line first) ++ kept_rest kept

-- a line that begins a logical line, if there is one
abbrev pub IsBeginning : Option KeptLine → Type 0
IsBeginning None = ⊤
IsBeginning (Some l) = begins_logical_line (kept_line l) ≡ true

-- What is left begins with a logical line, or is nothing.
abbrev pub IsAtStart : Option KeptLine → KeptLines → Type 0
IsAtStart None kept = kept_rest kept ≡ []
IsAtStart (Some l) kept = begins_logical_line (kept_line l) ≡ true
