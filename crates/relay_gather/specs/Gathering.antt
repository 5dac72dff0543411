-- The job text that is gathered from files.
use Rattle.std.specs.Prelude.{◌≡◌, ℕ, List, [], ◌∷◌, ◌++◌, take, map, filter_map, flat_map, codes, Contains, slice_get, Option, Some, None, Result, Ok, Err, ◌⊎◌, ⊤}
use Rattle.std.specs.Str.{bytes_eq}
use Rattle.relay_text.specs.Bytes.{firsts}
use Rattle.relay_aliasfile.specs.AliasFiles.{alias_file_of, entry_items}
use Rattle.relay_aliasfile.specs.IncludeFiles.{include_file_of}
use Rattle.relay_aliasfile.specs.IncludeNames.{include_names_in}
use Rattle.relay_job.specs.declared.job.JobInclude.{JobInclude}
use Rattle.relay_job.specs.JobText.{section_bytes, sections_of, bad_job}
use Rattle.relay_job.specs.declared.fault.RunFault.{RunFault}
use Rattle.relay_gather.specs.declared.paths.Paths.{Paths}
use Rattle.relay_gather.specs.Source.{Answer, unknown, absent, failed, file, Refuses}
use Rattle.relay_gather.specs.Sections.{with_end, named_section, include_section, joined}
use Rattle.relay_gather.specs.JoinedFiles.{joined_files}

-- The include files that a file names, each by its first place.
abbrev pub names_in_aliases : Answer → List (List ℕ)
names_in_aliases (file text) = include_names_in (entry_items (alias_file_of text).entries)
names_in_aliases absent = []
names_in_aliases failed = []
names_in_aliases unknown = []

abbrev pub names_in_include : Answer → List (List ℕ)
names_in_include (file text) = include_names_in (include_file_of text).items
names_in_include absent = []
names_in_include failed = []
names_in_include unknown = []

module _ (answer : List ℕ → Answer) where
  abbrev pub named_in : List ℕ → Option (List ℕ) → List (Result (List ℕ) RunFault)
  named_in heading None = []
  named_in heading (Some path) = named_section heading (answer path) ∷ []

  -- Several files are one section, which has their lines in this order; of one file it has what a named file's has.
  abbrev pub joined_in : List ℕ → List (List ℕ) → List (Result (List ℕ) RunFault)
  joined_in heading [] = []
  joined_in heading (path ∷ paths) = named_section heading (joined_files answer (answer path) paths) ∷ []

  abbrev pub included_in : List ℕ → Result (List ℕ) RunFault
  included_in path = include_section path (answer path)

  -- the include files that the alias files name, and those that some include files name
  abbrev pub first_names : List (List ℕ) → List (List ℕ)
  first_names [] = []
  first_names (path ∷ paths) = names_in_aliases (joined_files answer (answer path) paths)

  abbrev pub names_of : List ℕ → List (List ℕ)
  names_of path = names_in_include (answer path)

  abbrev pub later_names : List (List ℕ) → List (List ℕ)
  later_names paths = flat_map names_of paths

  -- an include file that the alias file names, or one of these
  abbrev pub IsNamedBy : List (List ℕ) → List (List ℕ) → List ℕ → Type 0
  IsNamedBy first earlier path = Contains first path ⊎ Contains (later_names earlier) path

  abbrev pub AreNamed : List (List ℕ) → List (List ℕ) → Type 0
  AreNamed first paths = (place : ℕ) (path : List ℕ) → slice_get paths place ≡ Some path → IsNamedBy first (take place paths) path

  -- The include files in breadth first order: those that the alias file names, then those that each of them names in turn, each by its
  -- first mention; and each is named by the alias file or by one before it.
  pub record IsBreadthFirst (first : List (List ℕ)) (paths : List (List ℕ)) : Type 0 where
    pub order : paths ≡ firsts bytes_eq (first ++ later_names paths)
    pub named : AreNamed first paths

  -- The first of the include files in that order, of which there may be no end.
  pub record IsFront (first : List (List ℕ)) (paths : List (List ℕ)) : Type 0 where
    pub later : List (List ℕ)
    pub order : paths ++ later ≡ firsts bytes_eq (first ++ later_names paths)
    pub named : AreNamed first paths

  -- the sections up to these include files, and those behind the include files
  abbrev pub front_sections : Paths → List (List ℕ) → List (Result (List ℕ) RunFault)
  front_sections files includes = named_in (codes "%settings") files.settings ++ joined_in (codes "%aliases") files.aliases ++ map included_in includes

  abbrev pub back_sections : Paths → List (Result (List ℕ) RunFault)
  back_sections files =
      named_in (codes "%mailboxes") files.mailboxes
      ++ joined_in (codes "%transport") files.transport
      ++ named_in (codes "%mx") files.mx
      ++ named_in (codes "%envelope") files.envelope

  abbrev pub sections_in : Paths → List (List ℕ) → List (Result (List ℕ) RunFault)
  sections_in files includes = front_sections files includes ++ back_sections files

  -- All sections are joined; or the first of them are, up to some include file, and they have a fault.
  pub record IsWhole (files : Paths) (max : ℕ) (gathered : Result (List ℕ) RunFault) : Type 0 where
    pub includes : List (List ℕ)
    pub order : IsBreadthFirst (first_names files.aliases) includes
    pub joins : joined (sections_in files includes) max ≡ gathered

  pub record IsCutShort (files : Paths) (max : ℕ) (fault : RunFault) : Type 0 where
    pub includes : List (List ℕ)
    pub order : IsFront (first_names files.aliases) includes
    pub joins : joined (front_sections files includes) max ≡ Err fault

  -- What is gathered: a text, or why there is none. A fault is that of the first section that has one, so the include files behind it
  -- aren't looked at.
  abbrev pub IsGathered : Paths → ℕ → Result (List ℕ) RunFault → Type 0
  IsGathered files max (Ok text) = IsWhole files max (Ok text)
  IsGathered files max (Err fault) = IsWhole files max (Err fault) ⊎ IsCutShort files max fault

-- why there is no text
abbrev pub GatherRefuses : (List ℕ → Answer) → Paths → ℕ → RunFault → Type 0
GatherRefuses answer files max = Refuses answer (λ fault. IsGathered answer files max (Err fault))

-- The sections of a job text have the lines of the files: their bytes are those of the files, each with the LF that its last line may
-- lack.
abbrev pub IsBodyOf : List ℕ → Answer → Type 0
IsBodyOf bytes (file text) = bytes ≡ with_end text
IsBodyOf bytes absent = ⊤
IsBodyOf bytes failed = ⊤
IsBodyOf bytes unknown = ⊤

abbrev pub HasNamed : (List ℕ → Answer) → List ℕ → List ℕ → Option (List ℕ) → Type 0
HasNamed answer text heading None = section_bytes text heading ≡ []
HasNamed answer text heading (Some path) = IsBodyOf (section_bytes text heading) (answer path)

abbrev pub HasJoined : (List ℕ → Answer) → List ℕ → List ℕ → List (List ℕ) → Type 0
HasJoined answer text heading [] = section_bytes text heading ≡ []
HasJoined answer text heading (path ∷ paths) = IsBodyOf (section_bytes text heading) (joined_files answer (answer path) paths)

-- The include file of a path, as a job has it; none where the source has no file for the path.
abbrev pub include_of_answer : List ℕ → Answer → Option JobInclude
include_of_answer path (file text) = Some (record { path = path; bytes = with_end text })
include_of_answer path absent = None
include_of_answer path failed = None
include_of_answer path unknown = None

abbrev pub found_include : (List ℕ → Answer) → List ℕ → Option JobInclude
found_include answer path = include_of_answer path (answer path)

-- The include sections are those of the include files that the source has, breadth first, and no others.
pub record HasFiles (answer : List ℕ → Answer) (files : Paths) (text : List ℕ) : Type 0 where
  pub no_bad_line : bad_job text ≡ None
  pub settings : HasNamed answer text (codes "%settings") files.settings
  pub aliases : HasJoined answer text (codes "%aliases") files.aliases
  pub mailboxes : HasNamed answer text (codes "%mailboxes") files.mailboxes
  pub transport : HasJoined answer text (codes "%transport") files.transport
  pub mx : HasNamed answer text (codes "%mx") files.mx
  pub envelope : HasNamed answer text (codes "%envelope") files.envelope
  pub paths : List (List ℕ)
  pub order : IsBreadthFirst answer (first_names answer files.aliases) paths
  pub includes : (sections_of text).includes ≡ filter_map (found_include answer) paths
