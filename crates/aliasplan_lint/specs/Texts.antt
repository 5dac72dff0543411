-- The lines of what is told.
use Rattle.std.specs.Prelude.{◌≡◌, ℕ, ◌-◌, ◌<◌, Bool, ◌==◌, not, ◌&&◌, ◌||◌, nat_lt, List, [], ◌∷◌, ◌++◌, map, decimal, codes, Option, Some, None, IsPermutation, if◌then◌else◌}
use Rattle.std.specs.List.{concat}
use Rattle.relay_text.specs.Addresses.{is_empty}
use Rattle.relay_gather.specs.declared.file_lines.FileLines.{FileLines}
use Rattle.relay_gather.specs.declared.origins.Origins.{Origins}
use Rattle.relay_gather.specs.Origins.{origin_in}
use Rattle.aliasplan_lint.specs.declared.section.Section.{Section}
use Rattle.aliasplan_lint.specs.declared.section.Section.TheVariants.{Settings, Aliases, Include, Mailboxes, Transport, Mx}
use Rattle.aliasplan_lint.specs.declared.places.FilePlace.{FilePlace}
use Rattle.aliasplan_lint.specs.declared.lint.Lint.{Lint}
use Rattle.aliasplan_lint.specs.Kinds.{kind_word}
use Rattle.aliasplan_lint.specs.Severities.{severity_word}
use Rattle.aliasplan_lint.specs.Lints.{severity_in}

-- a line of a file, or of a section that is named by words
pub record PlaceText : Type 0 where
  pub before : List ℕ
  pub path : List ℕ
  pub line : ℕ

abbrev pub place_value : FilePlace → PlaceText
place_value p = record { before = p.before.now; path = p.path.now; line = p.line }

abbrev pub at_origin : List ℕ → ℕ → Option (List ℕ × ℕ) → PlaceText
at_origin words line None = record { before = words; path = []; line = line }
at_origin words line (Some origin) = record { before = []; path = origin.0; line = origin.1 }

-- The line of the file that has the line of a section; without files the section's words name it.
abbrev pub placed_in : List ℕ → List FileLines → ℕ → PlaceText
placed_in words files line = at_origin words line (origin_in files (line - 1))

abbrev pub place_in_files : Origins → Section → ℕ → PlaceText
place_in_files origins Settings line = placed_in (codes "settings") origins.settings line
place_in_files origins Aliases line = placed_in (codes "aliases") origins.aliases line
place_in_files origins (Include path) line = record { before = []; path = path.now; line = line }
place_in_files origins Mailboxes line = placed_in (codes "mailboxes") origins.mailboxes line
place_in_files origins Transport line = placed_in (codes "transport") origins.transport line
place_in_files origins Mx line = placed_in (codes "mx") origins.mx line

abbrev pub place_in_text : Section → ℕ → PlaceText
place_in_text Settings line = record { before = codes "settings"; path = []; line = line }
place_in_text Aliases line = record { before = codes "aliases"; path = []; line = line }
place_in_text (Include path) line = record { before = codes "include "; path = path.now; line = line }
place_in_text Mailboxes line = record { before = codes "mailboxes"; path = []; line = line }
place_in_text Transport line = record { before = codes "transport"; path = []; line = line }
place_in_text Mx line = record { before = codes "mx"; path = []; line = line }

abbrev pub file_place_in : Option Origins → Section → ℕ → PlaceText
file_place_in None section line = place_in_text section line
file_place_in (Some origins) section line = place_in_files origins section line

-- control characters other than tabs are shown as question marks
abbrev pub shown_byte : ℕ → ℕ
shown_byte b = if (nat_lt b 32 && not (b == 9)) || b == 127 then 63 else b

abbrev pub shown : List ℕ → List ℕ
shown text = map shown_byte text

abbrev pub column_text : Option ℕ → List ℕ
column_text None = []
column_text (Some column) = 58 ∷ decimal column

abbrev pub words_text : List ℕ → List ℕ
words_text text = if is_empty text then [] else (codes ": " ++ shown text)

-- `FILE:LINE: SEVERITY: KIND: WHAT: WHY`, with the column behind the line where there is one
abbrev pub place_text : PlaceText → Option ℕ → List ℕ
place_text place column = place.before ++ shown place.path ++ 58 ∷ decimal place.line ++ column_text column

abbrev pub text_at : PlaceText → Lint → List ℕ
text_at place lint =
    place_text place lint.spot.column ++ codes ": " ++ severity_word (severity_in lint) ++ codes ": " ++ kind_word lint.kind
    ++ words_text lint.subject ++ words_text lint.reason ++ 10 ∷ []

abbrev pub lint_line : Option Origins → Lint → List ℕ
lint_line origins lint = text_at (file_place_in origins lint.spot.section lint.spot.line) lint

-- The lines of all, in some order.
pub record IsLintText (origins : Option Origins) (lints : List Lint) (text : List ℕ) : Type 0 where
  pub lines : List (List ℕ)
  pub order : IsPermutation (map (lint_line origins) lints) lines
  pub is : text ≡ concat lines
