-- What gathering a job from its files writes.
use Rattle.std.specs.Prelude.{ℕ, List, take, Option, Ok, ⊤}
use Rattle.std.specs.Io.KnownBytes.{Appends}
use Rattle.relay_job.specs.declared.fault.RunFault.{RunFault}
use Rattle.relay_job.specs.declared.fault.RunFault.TheVariants.{Read, TooLong, BadJob, BadSetting, BadEnvelope, TooManyNames, TooManyOwners, TooManyPairs, Write, Memory}
use Rattle.relay_gather.specs.declared.paths.Paths.{Paths}
use Rattle.relay_gather.specs.Source.{Answer, Tells}
use Rattle.relay_gather.specs.Gathering.{IsGathered, HasFiles, GatherRefuses}

-- The text that is gathered is written, which has the lines of the files; it is judged where the source tells its answer for each path.
pub record Gathers (answer : List ℕ → Answer) (files : Paths) (max : ℕ) (old new : Option (List ℕ)) : Type 0 where
  pub text : List ℕ
  pub gathered : Tells answer → IsGathered answer files max (Ok text)
  pub written : Appends old new text
  pub has_files : Tells answer → HasFiles answer files text

-- a front of that text is written
pub record GathersFront (answer : List ℕ → Answer) (files : Paths) (max : ℕ) (old new : Option (List ℕ)) : Type 0 where
  pub text : List ℕ
  pub gathered : Tells answer → IsGathered answer files max (Ok text)
  pub count : ℕ
  pub written : Appends old new (take count text)

-- why a job isn't gathered; writing has clauses of its own
abbrev pub IsUngathered : (List ℕ → Answer) → Paths → ℕ → RunFault → Type 0
IsUngathered answer files max Read = GatherRefuses answer files max Read
IsUngathered answer files max TooLong = GatherRefuses answer files max TooLong
IsUngathered answer files max (BadJob line) = GatherRefuses answer files max (BadJob line)
IsUngathered answer files max (BadSetting line) = GatherRefuses answer files max (BadSetting line)
IsUngathered answer files max (BadEnvelope line) = GatherRefuses answer files max (BadEnvelope line)
IsUngathered answer files max TooManyNames = GatherRefuses answer files max TooManyNames
IsUngathered answer files max TooManyOwners = GatherRefuses answer files max TooManyOwners
IsUngathered answer files max TooManyPairs = GatherRefuses answer files max TooManyPairs
IsUngathered answer files max Write = ⊤
IsUngathered answer files max Memory = GatherRefuses answer files max Memory
