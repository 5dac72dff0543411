-- What a source answers.
use Rattle.std.specs.Prelude.{◌≡◌, ◌≢◌, ℕ, List, ⊤}
use Rattle.relay_job.specs.declared.fault.RunFault.{RunFault}
use Rattle.relay_job.specs.declared.fault.RunFault.TheVariants.{Read, TooLong, Memory as OutOfMemory}
use Rattle.relay_gather.specs.declared.source_fault.SourceFault.{SourceFault}
use Rattle.relay_gather.specs.declared.source_fault.SourceFault.TheVariants.{Absent, Failed, Memory}

-- What a source answers for a path, where it's known.
pub data Answer : Type 0 where
  unknown : Answer
  absent : Answer
  failed : Answer
  file : List ℕ → Answer

-- what a source gave, and what it refused with, is what it tells
abbrev pub GivesFile : Answer → List ℕ → Type 0
GivesFile unknown bytes = ⊤
GivesFile (file text) bytes = bytes ≡ text
GivesFile absent bytes = ⊥
GivesFile failed bytes = ⊥

abbrev pub GivesNone : Answer → SourceFault → Type 0
GivesNone unknown fault = ⊤
GivesNone answer Memory = ⊤
GivesNone absent Absent = ⊤
GivesNone failed Failed = ⊤
GivesNone answer fault = ⊥

-- Gathering is judged where the source tells its answer for each path.
abbrev pub Tells : (List ℕ → Answer) → Type 0
Tells answer = (path : List ℕ) → answer path ≢ unknown

-- A fault of reading, or of a text that is too long, where it has its cause; memory may run out.
abbrev pub Refuses : (List ℕ → Answer) → (RunFault → Type 0) → RunFault → Type 0
Refuses answer Cause Read = Tells answer → Cause Read
Refuses answer Cause TooLong = Tells answer → Cause TooLong
Refuses answer Cause OutOfMemory = ⊤
Refuses answer Cause fault = ⊥
