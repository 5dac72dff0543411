-- Files that one section has, one behind the other.
use Rattle.std.specs.Prelude.{◌≡◌, ℕ, Bool, not, ◌&&◌, ◌||◌, List, [], ◌∷◌, ◌++◌, map, flat_map, codes, if◌then◌else◌}
use Rattle.relay_text.specs.Bytes.{begins_with}
use Rattle.relay_text.specs.Lines.{raw_lines, line_text, is_ignored, logical_lines_of}
use Rattle.relay_gather.specs.Source.{Answer, unknown, absent, failed, file}
use Rattle.relay_gather.specs.Sections.{with_end}

-- A line that isn't ignored begins a logical line, or with white space first continues one (relay_text/specs/Lines.antt).
abbrev pub begins_white : List ℕ → Bool
begins_white raw = begins_with (codes " ") raw || begins_with (codes "\t") raw

abbrev pub is_beginning : List ℕ → Bool
is_beginning raw = not (begins_white raw) && not (is_ignored (line_text raw))

abbrev pub is_continuing : List ℕ → Bool
is_continuing raw = begins_white raw && not (is_ignored (line_text raw))

-- A line of a later file that would continue an entry of a file before gets `#` in front, which makes it one that is ignored: each that
-- continues a line, and before which no line of its own file begins one.
abbrev pub apart_line : List ℕ → List ℕ
apart_line raw = if is_continuing raw then (35 ∷ raw) else raw

abbrev pub apart_lines : List (List ℕ) → List (List ℕ)
apart_lines [] = []
apart_lines (raw ∷ raws) = if is_beginning raw then (raw ∷ raws) else (apart_line raw ∷ apart_lines raws)

abbrev pub apart : List ℕ → List ℕ
apart text = flat_map (λ raw. raw) (apart_lines (raw_lines text))

-- What a source answers for a file and one behind it: their contents, the first with the LF that its last line may lack. Where one of
-- them can't be had, there is no file; the first that can't decides.
abbrev pub behind : Answer → Answer → Answer
behind (file text) (file more) = file (with_end text ++ apart more)
behind (file text) absent = absent
behind (file text) failed = failed
behind (file text) unknown = unknown
behind absent later = absent
behind failed later = failed
behind unknown later = unknown

module _ (answer : List ℕ → Answer) where
  -- the files of these paths behind a first one
  abbrev pub joined_files : Answer → List (List ℕ) → Answer
  joined_files first [] = first
  joined_files first (path ∷ paths) = joined_files (behind first (answer path)) paths

-- The logical lines of a text, and of the file that an answer is.
abbrev pub logical_texts : List ℕ → List (List ℕ)
logical_texts text = map (λ l. l.text) (logical_lines_of text).lines

abbrev pub logical_texts_in : Answer → List (List ℕ)
logical_texts_in (file text) = logical_texts text
logical_texts_in absent = []
logical_texts_in failed = []
logical_texts_in unknown = []

-- Joined files have the logical lines of each, one file behind the other: no line of one continues an entry of another.
abbrev pub AreApart : (List ℕ → Answer) → List ℕ → List (List ℕ) → List ℕ → Type 0
AreApart answer first paths whole =
    joined_files answer (file first) paths ≡ file whole → logical_texts whole ≡ logical_texts first ++ flat_map (λ path. logical_texts_in (answer path)) paths
