-- Findings beside their lines.
use Rattle.std.specs.Prelude.{◌≡◌, ℕ, List, map}
use Rattle.relay_wire.specs.declared.found_line.FoundLine.{FoundLine}
use Rattle.relay_wire.specs.declared.finding.Finding.{Finding}
use Rattle.relay_wire.specs.Findings.{finding_text_of}

-- the lines without the findings beside them
abbrev pub lines_beside : List FoundLine → List (List ℕ)
lines_beside found = map (λ one. one.line.items) found

-- the findings without their lines
abbrev pub findings_beside : List FoundLine → List Finding
findings_beside found = map (λ one. one.finding) found

-- a finding beside its own line
abbrev pub HasOwnLine : FoundLine → Type 0
HasOwnLine one = one.line.items ≡ finding_text_of one.finding
