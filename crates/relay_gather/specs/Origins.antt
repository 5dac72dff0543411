-- Which lines of a section are those of which file.
use Rattle.std.specs.Prelude.{◌≡◌, ℕ, ◌+◌, ◌-◌, nat_lt, List, [], ◌∷◌, ◌++◌, length, map, flat_map, option_to_list, Option, Some, None, if◌then◌else◌}
use Rattle.relay_text.specs.Lines.{raw_lines, line_text, physical_lines}
use Rattle.relay_job.specs.declared.fault.RunFault.{RunFault}
use Rattle.relay_job.specs.declared.fault.RunFault.TheVariants.{Read}
use Rattle.relay_gather.specs.declared.file_lines.FileLines.{FileLines}
use Rattle.relay_gather.specs.declared.origins.Origins.{Origins}
use Rattle.relay_gather.specs.declared.paths.Paths.{Paths}
use Rattle.relay_gather.specs.Source.{Answer, unknown, absent, failed, file}
use Rattle.relay_gather.specs.Fetching.{IsNoFile}
use Rattle.relay_gather.specs.JoinedFiles.{apart_lines, joined_files}

-- the lines of the file that an answer is, each with its end
abbrev pub lines_in : Answer → List (List ℕ)
lines_in (file text) = raw_lines text
lines_in absent = []
lines_in failed = []
lines_in unknown = []

-- The lines that a file has in a section: as they are where it stands first, and behind another those that would continue a line of that
-- one with `#` in front.
abbrev pub first_lines : Answer → List (List ℕ)
first_lines answer = map line_text (lines_in answer)

abbrev pub later_lines : Answer → List (List ℕ)
later_lines answer = map line_text (apart_lines (lines_in answer))

abbrev pub counted_in : (List ℕ → Answer) → List ℕ → FileLines
counted_in answer path = record { path = path; lines = length (lines_in (answer path)) }

-- The file and the line there, from 1, of the line of a section that has so many before it.
abbrev pub origin_in : List FileLines → ℕ → Option (List ℕ × ℕ)
origin_in [] place = None
origin_in (f ∷ fs) place = if nat_lt place f.lines then Some (f.path, place + 1) else origin_in fs (place - f.lines)

-- Joined files have the lines of each, one for one: the section's line that has its origin there is that line of the file.
abbrev pub AreLinesOfFiles : (List ℕ → Answer) → List ℕ → List (List ℕ) → List ℕ → Type 0
AreLinesOfFiles answer path paths whole =
    joined_files answer (answer path) paths ≡ file whole → physical_lines whole ≡ first_lines (answer path) ++ flat_map (λ p. later_lines (answer p)) paths

abbrev pub IsUncounted : (List ℕ → Answer) → RunFault → Type 0
IsUncounted answer fault = (fault ≡ Read) × (path : List ℕ) × IsNoFile (answer path)

-- each section's files, with the numbers of their lines
pub record AreOrigins (answer : List ℕ → Answer) (files : Paths) (origins : Origins) : Type 0 where
  pub settings : origins.settings ≡ map (counted_in answer) (option_to_list files.settings)
  pub aliases : origins.aliases ≡ map (counted_in answer) files.aliases
  pub mailboxes : origins.mailboxes ≡ map (counted_in answer) (option_to_list files.mailboxes)
  pub transport : origins.transport ≡ map (counted_in answer) files.transport
  pub mx : origins.mx ≡ map (counted_in answer) (option_to_list files.mx)
