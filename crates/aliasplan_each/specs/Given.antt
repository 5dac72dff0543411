-- What a source of tables gives.
use Rattle.std.specs.Prelude.{◌≡◌, ℕ, ◌<◌, List, length, ⊤}
use Rattle.relay_job.specs.declared.fault.RunFault.{RunFault}
use Rattle.relay_job.specs.declared.fault.RunFault.TheVariants.{Read, TooLong}
use Rattle.aliasplan.specs.Outcomes.{IsReadFault}

-- What is given at one time, where it's known: a text, or that none can be read.
pub data Given : Type 0 where
  unknown : Given
  unread : Given
  text : List ℕ → Given

-- what a source gave, and what it refused with, is what it tells
abbrev pub GivesText : Given → List ℕ → Type 0
GivesText unknown bytes = ⊤
GivesText unread bytes = ⊥
GivesText (text given) bytes = bytes ≡ given

abbrev pub Explains : ℕ → Given → RunFault → Type 0
Explains max unread TooLong = ⊥
Explains max (text given) Read = ⊥
Explains max (text given) TooLong = max < length given
Explains max given fault = ⊤

abbrev pub GivesNone : ℕ → Given → RunFault → Type 0
GivesNone max given fault = IsReadFault fault × Explains max given fault
