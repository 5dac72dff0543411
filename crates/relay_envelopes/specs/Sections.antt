-- A text of many envelopes: settings, files and tables as in a job, and behind them one section after another, each an envelope's.
use Rattle.std.specs.Prelude.{ℕ, Bool, true, false, not, ◌&&◌, List, [], ◌∷◌, length, drop, flat_map, Option, Some, None, option_map, Result, if◌then◌else◌}
use Rattle.std.specs.List.{list_all, list_any, fold}
use Rattle.std.specs.Str.{bytes_eq}
use Rattle.relay_text.specs.Bytes.{is_white, first_of}
use Rattle.relay_text.specs.Lines.{cut_before}
use Rattle.relay_job.specs.declared.job.Job.{Job}
use Rattle.relay_job.specs.declared.fault.RunFault.{RunFault}
use Rattle.relay_job.specs.declared.fault.RunFault.TheVariants.{BadJob, BadSetting}
use Rattle.relay_job.specs.JobText.{JobLine, job_lines, text_of, is_heading, first_broken, bad_job, bad_setting, sections_of as job_of_sections, job_unless}
use Rattle.relay_job.specs.Tables.{without_envelope}
use Rattle.relay_envelopes.specs.Headings.{is_envelope_word, id_of, is_end}

-- The section of an envelope: its heading's number and ID, and the bytes of its lines.
pub record Section : Type 0 where
  pub line : ℕ
  pub id : List ℕ
  pub bytes : List ℕ

abbrev pub id_or_none : Option (List ℕ) → List ℕ
id_or_none None = []
id_or_none (Some id) = id

-- a heading and the lines behind it; what `%end` begins is none
abbrev pub section_of : List JobLine → List Section
section_of [] = []
section_of (heading ∷ lines) =
    if is_end (text_of heading) then []
    else (record { line = heading.number; id = id_or_none (id_of (text_of heading)); bytes = flat_map (λ l. l.raw) lines } ∷ [])

-- Each heading but `%end` begins a section; what stands before the first belongs to none.
unfoldable pub envelopes_of : List JobLine → List Section
envelopes_of lines = flat_map section_of (cut_before is_heading lines).pieces

-- the IDs of headings
abbrev pub has_id : List JobLine → List ℕ → Bool
has_id lines id = list_any (λ l. is_heading l && is_it (id_of (text_of l))) lines where
  is_it : Option (List ℕ) → Bool
  is_it None = false
  is_it (Some other) = bytes_eq id other

-- Whether an envelope goes on behind a line: a heading begins one, and `%end` ends it.
abbrev pub goes_on : Bool → JobLine → Bool
goes_on begun l = if is_heading l then not (is_end (text_of l)) else begun

abbrev pub has_begun : List JobLine → Bool
has_begun lines = fold goes_on false lines

-- A line breaks the envelopes where it is a heading that has no ID or that of an earlier one; and where no envelope has begun or it has
-- ended, and it is `%end`, or no heading and not of white space alone.
abbrev pub breaks_envelopes : List JobLine → JobLine → Bool
breaks_envelopes earlier l =
    if is_heading l then (if is_end (text_of l) then not (has_begun earlier) else is_bad (id_of (text_of l)))
    else (not (has_begun earlier) && not (list_all is_white (text_of l))) where
      is_bad : Option (List ℕ) → Bool
      is_bad None = true
      is_bad (Some id) = has_id earlier id

abbrev pub bad_envelopes : List JobLine → Option ℕ
bad_envelopes lines = first_broken breaks_envelopes (λ l. l.number) lines

-- The settings, files and tables stand before the first heading with the word `%envelope`.
abbrev pub begins_envelopes : JobLine → Bool
begins_envelopes l = is_heading l && is_envelope_word (text_of l)

abbrev pub front_lines : List ℕ → List JobLine
front_lines text = (cut_before begins_envelopes (job_lines text)).before

abbrev pub front_of : List ℕ → List ℕ
front_of text = flat_map (λ l. l.raw) (front_lines text)

abbrev pub lines_behind : List ℕ → List JobLine
lines_behind text = drop (length (front_lines text)) (job_lines text)

-- The first line that breaks the job or the envelopes, else the first that breaks the settings.
abbrev pub each_fault : List ℕ → Option RunFault
each_fault text = first_of (
    option_map BadJob (bad_job (front_of text))
    ∷ option_map BadJob (bad_envelopes (lines_behind text))
    ∷ option_map BadSetting (bad_setting (front_of text))
    ∷ [])

-- the settings, files and tables of a text of many envelopes, or its first fault
unfoldable pub each_tables_of : List ℕ → Result Job RunFault
each_tables_of text = job_unless (each_fault text) (without_envelope (job_of_sections (front_of text)))
