-- Include files, as they are read.
use Rattle.std.specs.Prelude.{◌≡◌, ℕ, ◌<◌, List, length, slice_index_or, IfSome}
use Rattle.relay_aliasfile.specs.IncludeFiles.{include_file_of}
use Rattle.relay_job.specs.declared.job.JobInclude.{JobInclude}
use Rattle.relay_planning.specs.declared.includes.IncludeReading.{IncludeReading}

abbrev pub include_in : IncludeReading → JobInclude
include_in reading = reading.include.now

-- what was read is what the include file says
abbrev pub IsSound : IncludeReading → Type 0
IsSound reading = IfSome reading.file (λ file. file ≡ include_file_of reading.include.now.bytes)

-- an include file that is to be read
abbrev pub IsUnreadOf : JobInclude → IncludeReading → Type 0
IsUnreadOf include reading = reading.include.now ≡ include

-- an include file, with what it says where it was read
pub record IsReadingOf (include : JobInclude) (reading : IncludeReading) : Type 0 where
  pub of_include : reading.include.now ≡ include
  pub file : IfSome reading.file (λ file. file ≡ include_file_of include.bytes)

-- include files, each at its place
pub record AreReadings (IsReading : JobInclude → IncludeReading → Type 0) (includes : List JobInclude) (readings : List IncludeReading) : Type 0 where
  pub long : length readings ≡ length includes
  pub each : (k : ℕ) (include : JobInclude) (reading : IncludeReading) → k < length includes → IsReading (slice_index_or includes k include) (slice_index_or readings k reading)
