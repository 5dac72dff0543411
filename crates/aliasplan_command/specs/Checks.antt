-- What a check of files and tables writes.
use Rattle.std.specs.Prelude.{◌≡◌, ℕ, ◌<◌, ◌≤◌, List, length, Option, Ok, Err, ⊤}
use Rattle.std.specs.Io.KnownBytes.{Appends}
use Rattle.relay_job.specs.declared.job.Job.{Job}
use Rattle.relay_job.specs.declared.fault.RunFault.{RunFault}
use Rattle.relay_job.specs.declared.fault.RunFault.TheVariants.{Read, TooLong, BadJob, BadSetting, BadEnvelope, TooManyNames, TooManyOwners, TooManyPairs, Write, Memory}
use Rattle.relay_job.specs.Tables.{tables_of}
use Rattle.relay_wire.specs.CheckText.{check_text_of}
use Rattle.relay_planning.specs.declared.options.Limits.{Limits}
use Rattle.aliasplan.specs.Checks.{to_each_alias, AreLines, notes_of}
use Rattle.relay_planning.specs.Limits.{IsRefused, IsWithin}
use Rattle.relay_planning.specs.Report.{texts, IsFindingLine, IsLineOf}
use Rattle.aliasplan_words.specs.declared.scope.Scope.{Scope}
use Rattle.aliasplan_words.specs.declared.scope.Scope.TheVariants.{Texts, Aliases}

-- the lines at fault alone, or what is found where the null sender writes to every alias
abbrev pub IsChecked : Limits → Scope → Job → List (List ℕ) → Type 0
IsChecked limits Texts tables lines = AreLines (IsLineOf tables texts) lines
IsChecked limits Aliases tables lines = IsWithin limits (to_each_alias tables) × AreLines (IsFindingLine (to_each_alias tables)) lines

-- What becomes of a text: the lines of findings, whose number this is, and the notes.
pub record IsCheckText (limits : Limits) (scope : Scope) (input text : List ℕ) (findings : ℕ) : Type 0 where
  pub size : length input ≤ limits.bytes
  pub tables : Job
  pub read : tables_of input ≡ Ok tables
  pub lines : List (List ℕ)
  pub checked : IsChecked limits scope tables lines
  pub written : text ≡ check_text_of lines (notes_of tables.settings)
  pub counted : findings ≡ length lines

-- that text is written
pub record WritesCheck (limits : Limits) (scope : Scope) (input : List ℕ) (old new : Option (List ℕ)) (findings : ℕ) : Type 0 where
  pub text : List ℕ
  pub due : IsCheckText limits scope input text findings
  pub written : Appends old new text

-- the text is within the limit, and no files and tables
pub record RefusesTables (limits : Limits) (input : List ℕ) (fault : RunFault) : Type 0 where
  pub size : length input ≤ limits.bytes
  pub read : tables_of input ≡ Err fault

-- why files and tables aren't checked: memory may run out at any moment, and what every alias leads to has limits
abbrev pub IsCheckRefused : Limits → Scope → Job → RunFault → Type 0
IsCheckRefused limits Texts tables fault = fault ≡ Memory
IsCheckRefused limits Aliases tables fault = IsRefused limits (to_each_alias tables) fault

-- the text is within the limit, and its files and tables aren't checked
pub record RefusesScope (limits : Limits) (scope : Scope) (input : List ℕ) (fault : RunFault) : Type 0 where
  pub size : length input ≤ limits.bytes
  pub tables : Job
  pub read : tables_of input ≡ Ok tables
  pub refused : IsCheckRefused limits scope tables fault

-- the faults of a text that is read whole
abbrev pub RefusesCheckBytes : Limits → Scope → List ℕ → RunFault → Type 0
RefusesCheckBytes limits scope input Read = ⊥
RefusesCheckBytes limits scope input TooLong = ⊥
RefusesCheckBytes limits scope input (BadJob line) = RefusesTables limits input (BadJob line)
RefusesCheckBytes limits scope input (BadSetting line) = RefusesTables limits input (BadSetting line)
RefusesCheckBytes limits scope input (BadEnvelope line) = ⊥
RefusesCheckBytes limits scope input TooManyNames = RefusesScope limits scope input TooManyNames
RefusesCheckBytes limits scope input TooManyOwners = RefusesScope limits scope input TooManyOwners
RefusesCheckBytes limits scope input TooManyPairs = RefusesScope limits scope input TooManyPairs
RefusesCheckBytes limits scope input Write = ⊥
RefusesCheckBytes limits scope input Memory = ⊤

-- the faults of a check: those of reading and writing have clauses of their own
abbrev pub RefusesCheck : Limits → Scope → List ℕ → RunFault → Type 0
RefusesCheck limits scope input Read = ⊤
RefusesCheck limits scope input TooLong = limits.bytes < length input
RefusesCheck limits scope input (BadJob line) = RefusesCheckBytes limits scope input (BadJob line)
RefusesCheck limits scope input (BadSetting line) = RefusesCheckBytes limits scope input (BadSetting line)
RefusesCheck limits scope input (BadEnvelope line) = ⊥
RefusesCheck limits scope input TooManyNames = RefusesCheckBytes limits scope input TooManyNames
RefusesCheck limits scope input TooManyOwners = RefusesCheckBytes limits scope input TooManyOwners
RefusesCheck limits scope input TooManyPairs = RefusesCheckBytes limits scope input TooManyPairs
RefusesCheck limits scope input Write = ⊤
RefusesCheck limits scope input Memory = ⊤
