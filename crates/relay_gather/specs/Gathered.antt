-- What is put at the end of a text that has room for so many bytes.
use Rattle.std.specs.Prelude.{◌≡◌, ℕ, ◌+◌, ◌<◌, List, [], ◌∷◌, ◌++◌, length, codes, Result, Ok, Err, if◌then◌else◌, ⊤}
use Rattle.relay_text.specs.Bytes.{begins_with, ends_with}
use Rattle.relay_job.specs.declared.fault.RunFault.{RunFault}
use Rattle.relay_job.specs.declared.fault.RunFault.TheVariants.{TooLong, Memory}
use Rattle.relay_gather.specs.declared.gathered.Gathered.{Gathered}
use Rattle.relay_gather.specs.Source.{Answer, Refuses}
use Rattle.relay_gather.specs.Sections.{joined}

-- a line of a file as a job has it
abbrev pub percent : List ℕ → List ℕ
percent raw = if begins_with (codes "%") raw then (37 ∷ []) else []

abbrev pub lacking_end : List ℕ → List ℕ
lacking_end raw = if ends_with (codes "\n") raw then [] else (10 ∷ [])

abbrev pub written_line : List ℕ → List ℕ
written_line raw = percent raw ++ raw ++ lacking_end raw

-- A piece is put at the end, where there is room.
pub record Puts (piece : List ℕ) (old new : Gathered) : Type 0 where
  pub bytes : new.bytes.items ≡ old.bytes.items ++ piece
  pub room : new.room + length piece ≡ old.room

abbrev pub Overflows : List ℕ → ℕ → RunFault → Type 0
Overflows piece room TooLong = room < length piece
Overflows piece room Memory = ⊤
Overflows piece room fault = ⊥

-- Sections are put at the end, or the first of them that can't be, decides.
pub record Adds (sections : List (Result (List ℕ) RunFault)) (old new : Gathered) : Type 0 where
  pub more : List ℕ
  pub joins : joined sections old.room ≡ Ok more
  pub puts : Puts more old new

-- why nothing more is put
abbrev pub Stops : (List ℕ → Answer) → List (Result (List ℕ) RunFault) → Gathered → RunFault → Type 0
Stops answer sections old = Refuses answer (λ fault. joined sections old.room ≡ Err fault)
