-- Where the parts of a job stand.
use Rattle.std.specs.Prelude.{◌≡◌, ℕ, Bool, true, false, ◌||◌, ◌⊎◌, List, [], ◌∷◌, ◌++◌, is_some, map, filter_map, flat_map, codes, Option, Some, None, option_map, if◌then◌else◌}
use Rattle.std.specs.Str.{bytes_eq}
use Rattle.relay_text.specs.Bytes.{trimmed_end, has_text}
use Rattle.relay_job.specs.declared.place.Place.{Place}
use Rattle.relay_job.specs.declared.section.Section.{Section}
use Rattle.relay_job.specs.declared.section.Section.TheVariants.{Settings, Aliases, Mailboxes, Transport, Mx, Envelope}
use Rattle.relay_job.specs.declared.heading.Heading.{Heading}
use Rattle.relay_job.specs.declared.heading.Heading.TheVariants.{Named, Include}
use Rattle.relay_job.specs.declared.sections.Sections.{Sections}
use Rattle.relay_job.specs.declared.include_place.IncludePlace.{IncludePlace}
use Rattle.relay_job.specs.declared.parts.Parts.{Parts}
use Rattle.relay_job.specs.declared.job.JobInclude.{JobInclude}
use Rattle.relay_job.specs.declared.settings.Settings as values
use Rattle.relay_job.specs.JobText.{JobLine, content_of, text_of, section_of, named, include, section_words, include_path, is_include_heading, Part, part_at, parts_of, included, bad_job}
use Rattle.relay_job.specs.JobText as texts
use Rattle.relay_text.specs.declared.lines.Line.{Line}
use Rattle.relay_job.specs.JobParts.{lines_of, first_bad_setting}
use Rattle.relay_job.specs.Places.{content_at}
use Rattle.relay_job.specs.Settings.{settings_of}

-- the heading of a section
abbrev pub word_of : Section → List ℕ
word_of Settings = codes "%settings"
word_of Aliases = codes "%aliases"
word_of Mailboxes = codes "%mailboxes"
word_of Transport = codes "%transport"
word_of Mx = codes "%mx"
word_of Envelope = codes "%envelope"

-- what a heading names
abbrev pub heading_section : Heading → texts.Section
heading_section (Named section) = named (word_of section)
heading_section (Include path) = include path.now

-- the word of the section that a heading names, and the path of the include file
abbrev pub section_word : List ℕ → Option (List ℕ)
section_word text = if has_text section_words (trimmed_end text) then Some (trimmed_end text) else None

abbrev pub include_word : List ℕ → Option (List ℕ)
include_word text = if is_include_heading text then Some (include_path text) else None

abbrev pub place_of : Sections → Section → Option Place
place_of s Settings = s.settings
place_of s Aliases = s.aliases
place_of s Mailboxes = s.mailboxes
place_of s Transport = s.transport
place_of s Mx = s.mx
place_of s Envelope = s.envelope

abbrev pub with_place : Sections → Section → Place → Sections
with_place s Settings place = record s { settings = Some place }
with_place s Aliases place = record s { aliases = Some place }
with_place s Mailboxes place = record s { mailboxes = Some place }
with_place s Transport place = record s { transport = Some place }
with_place s Mx place = record s { mx = Some place }
with_place s Envelope place = record s { envelope = Some place }

-- the section whose heading stands before a place
abbrev pub part_behind : List ℕ → Place → Part
part_behind word place = record { section = named word; number = place.line; lines = content_at place }

-- the lines behind a heading, their bytes, and its number; nothing and 0 where there is none
abbrev pub content_behind : Option Place → List JobLine
content_behind None = []
content_behind (Some place) = content_at place

abbrev pub bytes_behind : Option Place → List ℕ
bytes_behind place = flat_map (λ l. content_of l.raw) (content_behind place)

abbrev pub line_behind : Option Place → ℕ
line_behind None = 0
line_behind (Some place) = place.line

-- the include file whose heading stands before a place
abbrev pub include_at : IncludePlace → JobInclude
include_at p = record { path = p.path.now; bytes = flat_map (λ l. content_of l.raw) (content_at p.place) }

-- whether a job has the part that a heading names
abbrev pub has_part : Parts → Heading → Bool
has_part p (Named section) = is_some (place_of p.sections section)
has_part p (Include path) = has_text p.paths path.now

-- The part that a heading names is at this place, beside those that were there.
pub record HasInclude (old new : Parts) (file : IncludePlace) : Type 0 where
  pub sections : new.sections ≡ old.sections
  pub includes : new.includes.items ≡ old.includes.items ++ file ∷ []
  pub paths : (q : List ℕ) → has_text new.paths q ≡ (bytes_eq q file.path.now || has_text old.paths q)

abbrev pub HasTaken : Parts → Heading → Place → Parts → Type 0
HasTaken old (Named section) place new = new ≡ record old { sections = with_place old.sections section place }
HasTaken old (Include path) place new = HasInclude old new (record { path = path; place = place })

-- The part that a line is the heading of is at this place, and was not there.
pub record HasHeading (old : Parts) (line : JobLine) (place : Place) (new : Parts) : Type 0 where
  pub heading : Heading
  pub names : section_of (text_of line) ≡ Some (heading_section heading)
  pub fresh : has_part old heading ≡ false
  pub taken : HasTaken old heading place new

-- A line is the heading of no part, or of one that is there.
abbrev pub IsBadHeading : Parts → JobLine → Type 0
IsBadHeading p line = (section_of (text_of line) ≡ None) ⊎ ((heading : Heading) × (section_of (text_of line) ≡ Some (heading_section heading)) × (has_part p heading ≡ true))

-- No line breaks the job, each section of the job is behind its place, and the include files are behind theirs in order.
pub record ArePartsOf (text : List ℕ) (p : Parts) : Type 0 where
  pub unbroken : bad_job text ≡ None
  pub places : (section : Section) → option_map (part_behind (word_of section)) (place_of p.sections section) ≡ part_at text (named (word_of section))
  pub includes : map include_at p.includes.items ≡ filter_map included (parts_of text)

-- the lines of the settings
abbrev pub setting_lines_of : Parts → List Line
setting_lines_of p = lines_of (content_behind (place_of p.sections Settings))

-- No line breaks the settings of a job's parts, and they are these.
pub record HasSettings (p : Parts) (settings : values.Settings) : Type 0 where
  pub unbroken : first_bad_setting (setting_lines_of p) ≡ None
  pub are : settings ≡ settings_of (setting_lines_of p)
