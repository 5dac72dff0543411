-- Where a text may be cut in two, and the lines behind the cut.
use Rattle.std.specs.Prelude.{◌≡◌, ◌==◌, ◌≢◌, ⊤, ℕ, ◌+◌, ◌-◌, ◌≤◌, false, List, [], ◌∷◌, map, length, Some, slice_get}
use Rattle.std.specs.List.{count_by}
use Rattle.relay_text.specs.Bytes.{is_white}
use Rattle.relay_text.specs.Lines.{kept_lines, logical_lines_of}
use Rattle.relay_text.specs.declared.lines.Line.{Line}
use Rattle.relay_text.specs.declared.lines.Lines.{Lines}

-- how many line feeds a text has
abbrev pub feeds_of : List ℕ → ℕ
feeds_of text = count_by (λ b. b == 10) text

-- The last byte of a text is the LF of its last line.
abbrev pub EndsWithLine : List ℕ → Type 0
EndsWithLine text = slice_get text (length text - 1) ≡ Some 10

-- A byte that begins the text of a line, where that line isn't ignored and continues no other.
pub record BeginsLine (b : ℕ) : Type 0 where
  pub no_white : is_white b ≡ false
  pub no_comment : b ≢ 35
  pub no_return : b ≢ 13
  pub no_feed : b ≢ 10

abbrev pub BeginsLogicalLine : List ℕ → Type 0
BeginsLogicalLine [] = ⊥
BeginsLogicalLine (b ∷ bs) = BeginsLine b

-- a line, where so many stand before its text
abbrev pub moved : ℕ → Line → Line
moved passed l = record { number = passed + l.number; text = l.text }

abbrev pub kept_behind : ℕ → List ℕ → List Line
kept_behind passed text = map (moved passed) (kept_lines text)

abbrev pub lines_behind : ℕ → List ℕ → Lines
lines_behind passed text = let cut = logical_lines_of text in record { lines = map (moved passed) cut.lines; orphans = map (λ n. passed + n) cut.orphans }

-- No number of a line is larger.
abbrev pub AreUpTo : ℕ → List Line → Type 0
AreUpTo most [] = ⊤
AreUpTo most (l ∷ ls) = (l.number ≤ most) × AreUpTo most ls
