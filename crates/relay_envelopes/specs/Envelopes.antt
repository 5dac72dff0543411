-- The sections of envelopes as code has them.
use Rattle.std.specs.Prelude.{ℕ, Bool, true, not, ◌&&◌, List, [], ◌∷◌, Option, Some, None, if◌then◌else◌}
use Rattle.std.specs.List.{list_all}
use Rattle.relay_text.specs.Bytes.{is_white, has_text}
use Rattle.relay_job.specs.JobText.{JobLine, text_of, is_heading}
use Rattle.relay_envelopes.specs.declared.section.EnvelopeSection.{EnvelopeSection}
use Rattle.relay_envelopes.specs.Headings.{id_of, is_end}
use Rattle.relay_envelopes.specs.Sections.{Section, goes_on}

abbrev pub section_in : EnvelopeSection → Section
section_in s = record { line = s.line; id = s.id.now; bytes = s.bytes.now }

-- Whether a line breaks the envelopes behind others that have these IDs, where an envelope goes on or none does.
abbrev pub breaks_behind : Bool → List (List ℕ) → JobLine → Bool
breaks_behind begun ids l =
    if is_heading l then (if is_end (text_of l) then not begun else is_bad (id_of (text_of l)))
    else (not begun && not (list_all is_white (text_of l))) where
      is_bad : Option (List ℕ) → Bool
      is_bad None = true
      is_bad (Some id) = has_text ids id

abbrev pub ids_behind : List (List ℕ) → JobLine → List (List ℕ)
ids_behind ids l = if is_heading l then with_id (id_of (text_of l)) else ids where
  with_id : Option (List ℕ) → List (List ℕ)
  with_id None = ids
  with_id (Some id) = id ∷ ids

-- the first line that breaks them
abbrev pub bad_behind : Bool → List (List ℕ) → List JobLine → Option ℕ
bad_behind begun ids [] = None
bad_behind begun ids (l ∷ ls) = if breaks_behind begun ids l then Some l.number else bad_behind (goes_on begun l) (ids_behind ids l) ls
