-- Physical and logical lines (aliases(5) and transport(5) of Postfix: "A logical line starts with non-whitespace text.
-- A line that starts with whitespace continues a logical line", and "empty lines and whitespace-only lines are ignored,
-- as are lines whose first non-whitespace character is a `#`").
use Rattle.std.specs.Prelude.{ℕ, Bool, true, false, not, ◌==◌, List, [], ◌∷◌, map, filter, flat_map, if◌then◌else◌}
use Rattle.std.specs.List.{onto_first, before_first, enumerate_from}
use Rattle.relay_text.specs.Bytes.{is_white}
use Rattle.relay_text.specs.declared.lines.Line.{Line}
use Rattle.relay_text.specs.declared.lines.Lines.{Lines}

-- A text is cut behind each LF; the last line may lack its LF.
abbrev pub raw_lines : List ℕ → List (List ℕ)
raw_lines [] = []
raw_lines (b ∷ bs) = if b == 10 then ((b ∷ []) ∷ raw_lines bs) else onto_first b (raw_lines bs)

-- One CR at the end of a line is dropped.
abbrev pub without_cr : List ℕ → List ℕ
without_cr [] = []
without_cr (b ∷ []) = if b == 13 then [] else (b ∷ [])
without_cr (b ∷ c ∷ bs) = b ∷ without_cr (c ∷ bs)

-- a line without its end
abbrev pub line_text : List ℕ → List ℕ
line_text raw = without_cr (before_first (λ b. b == 10) raw)

abbrev pub physical_lines : List ℕ → List (List ℕ)
physical_lines text = map line_text (raw_lines text)

-- a physical line with its number, from 1
abbrev pub numbered_lines : List ℕ → List Line
numbered_lines text = map (λ p. record { number = p.0; text = p.1 }) (enumerate_from 1 (physical_lines text))

-- An ignored line is empty, of white space alone, or has `#` as its first byte that isn't white.
abbrev pub is_ignored : List ℕ → Bool
is_ignored [] = true
is_ignored (b ∷ bs) = if is_white b then is_ignored bs else (b == 35)

abbrev pub kept_lines : List ℕ → List Line
kept_lines text = filter (λ l. not (is_ignored l.text)) (numbered_lines text)

-- whether a line begins with text that isn't white
abbrev pub begins_logical_line : Line → Bool
begins_logical_line l = begins l.text where
  begins : List ℕ → Bool
  begins [] = false
  begins (b ∷ bs) = not (is_white b)

-- A list cut before each element that passes a test: what stands before the first cut, and the pieces.
pub record Cut (X : Type 0) : Type 0 where
  pub before : List X
  pub pieces : List (List X)

abbrev pub cut_before : {X : Type 0} → (X → Bool) → List X → Cut X
cut_before starts [] = record { before = []; pieces = [] }
cut_before starts (x ∷ xs) = let rest = cut_before starts xs in
    if starts x then record { before = []; pieces = (x ∷ rest.before) ∷ rest.pieces }
    else record { before = x ∷ rest.before; pieces = rest.pieces }

-- A piece is one logical line, joined as its lines stand, under the number of its first.
abbrev pub joined : List Line → List Line
joined [] = []
joined (first ∷ more) = record { number = first.number; text = flat_map (λ l. l.text) (first ∷ more) } ∷ []

-- The logical lines of a text, and the numbers of the lines that continue none.
unfoldable pub logical_lines_of : List ℕ → Lines
logical_lines_of text = let cut = cut_before begins_logical_line (kept_lines text) in
    record { lines = flat_map joined cut.pieces; orphans = map (λ l. l.number) cut.before }
