-- The text of a job: its sections, the settings and the envelope (RFC 5321 section 4.1.1 for MAIL and RCPT; the text's form is this
-- profile's own).
use Rattle.std.specs.Prelude.{ℕ, Bool, true, false, not, ◌&&◌, nat_lt, List, [], ◌∷◌, length, take, drop, map, filter, filter_map, flat_map, codes, Option, Some, None, is_none, option_map, option_and_then, unwrap_or, slice_get, Result, Ok, Err, if◌then◌else◌}
use Rattle.std.specs.List.{list_all, list_any, enumerate_from}
use Rattle.std.specs.Str.{bytes_eq}
use Rattle.relay_text.specs.Bytes.{is_white, trimmed, trimmed_end, begins_with, begins_with_word, has_text, each_after, first_of}
use Rattle.relay_text.specs.Lines.{raw_lines, line_text, cut_before}
use Rattle.relay_text.specs.AddressParts.{AddressParts}
use Rattle.relay_text.specs.Addresses.{path_of}
use Rattle.relay_text.specs.declared.lines.Line.{Line}
use Rattle.relay_text.specs.declared.fault.TextFault.{TextFault}
use Rattle.relay_job.specs.declared.settings.Settings.{Settings}
use Rattle.relay_job.specs.declared.job.Job.{Job}
use Rattle.relay_job.specs.declared.job.JobInclude.{JobInclude}
use Rattle.relay_job.specs.declared.fault.RunFault.{RunFault}
use Rattle.relay_job.specs.declared.fault.RunFault.TheVariants.{BadJob, BadSetting, BadEnvelope}
use Rattle.relay_job.specs.Settings.{settings_of, setting_lines, breaks_settings}

-- A line of the job with its number, from 1, and its bytes with its end.
pub record JobLine : Type 0 where
  pub number : ℕ
  pub raw : List ℕ

abbrev pub job_lines : List ℕ → List JobLine
job_lines text = map (λ p. record { number = p.0; raw = p.1 }) (enumerate_from 1 (raw_lines text))

abbrev pub text_of : JobLine → List ℕ
text_of l = line_text l.raw

-- A heading's first byte is `%` and its second isn't.
abbrev pub is_heading : JobLine → Bool
is_heading l = begins_with (codes "%") (text_of l) && not (begins_with (codes "%%") (text_of l))

-- A heading names a section, by its word, or an include file, by its path.
pub data Section : Type 0 where
  named : List ℕ → Section
  include : List ℕ → Section

abbrev pub same_section : Section → Section → Bool
same_section (named a) (named b) = bytes_eq a b
same_section (named a) (include b) = false
same_section (include a) (named b) = false
same_section (include a) (include b) = bytes_eq a b

abbrev pub section_words : List (List ℕ)
section_words = codes "%settings" ∷ codes "%aliases" ∷ codes "%mailboxes" ∷ codes "%transport" ∷ codes "%mx" ∷ codes "%envelope" ∷ []

-- white space round a path is dropped, and some stands before it
abbrev pub include_path : List ℕ → List ℕ
include_path text = trimmed (drop 8 text)

abbrev pub is_include_heading : List ℕ → Bool
is_include_heading text = begins_with (codes "%include") text && list_all is_white (take 1 (drop 8 text)) && begins_with (codes "/") (include_path text)

-- the section that a heading names: white space at its end is dropped
abbrev pub section_of : List ℕ → Option Section
section_of text =
    if has_text section_words (trimmed_end text) then Some (named (trimmed_end text))
    else (if is_include_heading text then Some (include (include_path text)) else None)

abbrev pub has_section : List JobLine → Section → Bool
has_section lines s = list_any (λ l. is_heading l && names_it (section_of (text_of l))) lines where
  names_it : Option Section → Bool
  names_it None = false
  names_it (Some t) = same_section s t

-- A line breaks the job where it is a heading that names no section or one of an earlier heading, or stands before the first heading
-- and isn't of white space alone.
abbrev pub breaks_job : List JobLine → JobLine → Bool
breaks_job earlier l = if is_heading l then is_bad (section_of (text_of l)) else (not (list_any is_heading earlier) && not (list_all is_white (text_of l))) where
  is_bad : Option Section → Bool
  is_bad None = true
  is_bad (Some s) = has_section earlier s

-- the numbers of the elements that break a rule, given those before them
abbrev pub broken : {X : Type 0} → (List X → X → Bool) → (X → ℕ) → List X → List ℕ
broken breaks number xs = each_after (λ earlier x. if breaks earlier x then (number x ∷ []) else []) [] xs

abbrev pub first_broken : {X : Type 0} → (List X → X → Bool) → (X → ℕ) → List X → Option ℕ
first_broken breaks number xs = slice_get (broken breaks number xs) 0

-- A content line that begins with `%%` stands for that line without its first `%`.
abbrev pub content_of : List ℕ → List ℕ
content_of raw = if begins_with (codes "%%") raw then drop 1 raw else raw

-- A section: its heading's number, and its lines.
pub record Part : Type 0 where
  pub section : Section
  pub number : ℕ
  pub lines : List JobLine

abbrev pub part_of : List JobLine → Option Part
part_of [] = None
part_of (heading ∷ lines) = option_map (λ s. record { section = s; number = heading.number; lines = lines }) (section_of (text_of heading))

abbrev pub parts_of : List ℕ → List Part
parts_of text = filter_map part_of (cut_before is_heading (job_lines text)).pieces

abbrev pub part_at : List ℕ → Section → Option Part
part_at text s = first_of (map (λ p. if same_section s p.section then Some p else None) (parts_of text))

-- the bytes of a section, which are none where it isn't there
abbrev pub part_bytes : Part → List ℕ
part_bytes p = flat_map (λ l. content_of l.raw) p.lines

abbrev pub section_bytes : List ℕ → List ℕ → List ℕ
section_bytes text word = bytes_in (part_at text (named word)) where
  bytes_in : Option Part → List ℕ
  bytes_in None = []
  bytes_in (Some p) = part_bytes p

-- the lines of a section, by the job's numbers
abbrev pub part_lines : Option Part → List Line
part_lines None = []
part_lines (Some p) = map (λ l. record { number = l.number; text = line_text (content_of l.raw) }) p.lines

-- an include file: its path and its bytes
abbrev pub included : Part → Option JobInclude
included p = included_as p.section where
  included_as : Section → Option JobInclude
  included_as (named word) = None
  included_as (include path) = Some (record { path = path; bytes = part_bytes p })

-- The envelope: one line with the sender's path, then one or more with a recipient's; lines of white space alone are skipped.
abbrev pub command_path : List ℕ → List ℕ → List ℕ → Option (Option AddressParts)
command_path word origin line = if begins_with_word word line then path_in (path_of origin (trimmed_end (drop (length word) line))) else None where
  path_in : Result (Option AddressParts) TextFault → Option (Option AddressParts)
  path_in (Ok path) = Some path
  path_in (Err fault) = None

abbrev pub sender_in : List ℕ → List ℕ → Option (Option AddressParts)
sender_in origin line = command_path (codes "mail from:") origin line

abbrev pub recipient_in : List ℕ → List ℕ → Option AddressParts
recipient_in origin line = option_and_then (λ path. path) (command_path (codes "rcpt to:") origin line)

abbrev pub envelope_lines : Option Part → List Line
envelope_lines part = filter (λ l. not (list_all is_white l.text)) (part_lines part)

-- the first line breaks the envelope where it names no sender, a later one where it names no recipient
abbrev pub breaks_envelope : List ℕ → List Line → Line → Bool
breaks_envelope origin [] l = is_none (sender_in origin l.text)
breaks_envelope origin (sender ∷ earlier) l = is_none (recipient_in origin l.text)

-- Where no line breaks it but a sender or a recipient is missing, the fault is at the heading, or at 0 where there is none.
abbrev pub heading_number : Option Part → ℕ
heading_number None = 0
heading_number (Some p) = p.number

abbrev pub too_early : Option Part → Option ℕ
too_early part = if nat_lt (length (envelope_lines part)) 2 then Some (heading_number part) else None

abbrev pub bad_envelope : List ℕ → Option Part → Option ℕ
bad_envelope origin part = first_of (first_broken (breaks_envelope origin) (λ l. l.number) (envelope_lines part) ∷ too_early part ∷ [])

-- The first line that breaks the job, else the first that breaks the settings, else the first that breaks the envelope.
abbrev pub bad_job : List ℕ → Option ℕ
bad_job text = first_broken breaks_job (λ l. l.number) (job_lines text)

abbrev pub settings_part : List ℕ → List Line
settings_part text = part_lines (part_at text (named (codes "%settings")))

abbrev pub bad_setting : List ℕ → Option ℕ
bad_setting text = first_broken breaks_settings (λ l. l.number) (setting_lines (settings_part text))

abbrev pub envelope_part : List ℕ → Option Part
envelope_part text = part_at text (named (codes "%envelope"))

abbrev pub job_settings : List ℕ → Settings
job_settings text = settings_of (settings_part text)

abbrev pub job_fault : List ℕ → Option RunFault
job_fault text = first_of (
    option_map BadJob (bad_job text)
    ∷ option_map BadSetting (bad_setting text)
    ∷ option_map BadEnvelope (bad_envelope (job_settings text).origin (envelope_part text))
    ∷ [])

-- The sections of a text that has no fault.
abbrev pub sections_of : List ℕ → Job
sections_of text =
    let settings = job_settings text in
    let envelope = envelope_lines (envelope_part text) in
    record {
      settings = settings;
      aliases = section_bytes text (codes "%aliases");
      includes = filter_map included (parts_of text);
      mailboxes = section_bytes text (codes "%mailboxes");
      transport = section_bytes text (codes "%transport");
      mx = section_bytes text (codes "%mx");
      sender = unwrap_or (first_of (map (λ l. sender_in settings.origin l.text) (take 1 envelope))) None;
      recipients = filter_map (λ l. recipient_in settings.origin l.text) (drop 1 envelope);
    }

-- a job, unless there's a fault
abbrev pub job_unless : Option RunFault → Job → Result Job RunFault
job_unless None job = Ok job
job_unless (Some fault) job = Err fault

unfoldable pub job_of : List ℕ → Result Job RunFault
job_of text = job_unless (job_fault text) (sections_of text)
