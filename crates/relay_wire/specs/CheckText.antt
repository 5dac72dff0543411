-- The text of a check of files and tables.
use Rattle.std.specs.Prelude.{ℕ, List, [], ◌∷◌, ◌++◌, length, codes, decimal}
use Rattle.relay_wire.specs.Findings.{spaced}
use Rattle.relay_wire.specs.PlanText.{line, lines_of}

abbrev pub check_line : ℕ → ℕ → List ℕ
check_line findings notes = spaced (codes "check" ∷ decimal findings ∷ codes "findings" ∷ decimal notes ∷ codes "notes" ∷ [])

-- the lines of findings and of notes stand as they are
abbrev pub check_text_of : List (List ℕ) → List (List ℕ) → List ℕ
check_text_of findings notes = line (check_line (length findings) (length notes)) ++ lines_of findings ++ lines_of notes ++ line (codes "end")
