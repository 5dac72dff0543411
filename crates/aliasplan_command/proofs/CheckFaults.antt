-- Which faults the bytes of files and tables have.
use Rattle.std.proofs.Common.{◌≡◌, ℕ, ◌≤◌, List, [], ◌∷◌, length, Option, Some, None, option_map, Ok, Err, subst}
use Rattle.relay_text.specs.Bytes.{first_of}
use Rattle.relay_job.specs.declared.job.Job.{Job}
use Rattle.relay_job.specs.declared.fault.RunFault.{RunFault}
use Rattle.relay_job.specs.declared.fault.RunFault.TheVariants.{Read, TooLong, BadJob, BadSetting, BadEnvelope, TooManyNames, TooManyOwners, TooManyPairs, Write, Memory}
use Rattle.relay_job.specs.JobAnswers.{Fails}
use Rattle.relay_job.specs.JobText.{bad_job, bad_setting, job_unless, sections_of}
use Rattle.relay_job.specs.Tables.{tables_of, without_envelope}
use Rattle.relay_planning.specs.declared.options.Limits.{Limits}
use Rattle.aliasplan_words.specs.declared.scope.Scope.{Scope}
use Rattle.aliasplan_words.specs.declared.scope.Scope.TheVariants.{Texts, Aliases}
use Rattle.aliasplan_command.specs.Checks.{IsCheckRefused, RefusesCheckBytes}

-- the two faults of the lines of files and tables
abbrev IsTablesFault : RunFault → Type 0
IsTablesFault (BadJob line) = Unit {0}
IsTablesFault (BadSetting line) = Unit {0}
IsTablesFault (BadEnvelope line) = ⊥
IsTablesFault Read = ⊥
IsTablesFault TooLong = ⊥
IsTablesFault TooManyNames = ⊥
IsTablesFault TooManyOwners = ⊥
IsTablesFault TooManyPairs = ⊥
IsTablesFault Write = ⊥
IsTablesFault Memory = ⊥

fault_among : (a b : Option ℕ) (tables : Job) (fault : RunFault) → job_unless (first_of (option_map BadJob a ∷ option_map BadSetting b ∷ [])) tables ≡ Err fault → IsTablesFault fault
fault_among (Some n) b tables fault h = let e : BadJob n ≡ fault = cc in subst IsTablesFault e tt
fault_among None (Some n) tables fault h = let e : BadSetting n ≡ fault = cc in subst IsTablesFault e tt
fault_among None None tables fault h = cc

fault_of_tables : (text : List ℕ) (fault : RunFault) → tables_of text ≡ Err fault → IsTablesFault fault
unfolding tables_of
fault_of_tables text fault h = fault_among (bad_job text) (bad_setting text) (without_envelope (sections_of text)) fault h

module _ (limits : Limits) (scope : Scope) (text : List ℕ) (size : length text ≤ limits.bytes) where
  -- a text that isn't files and tables
  pub refuses_tables : (fault : RunFault) → Fails fault (tables_of text) → RefusesCheckBytes limits scope text fault
  refuses_tables (BadJob line) h = record { size = size; read = h }
  refuses_tables (BadSetting line) h = record { size = size; read = h }
  refuses_tables Memory h = tt
  refuses_tables (BadEnvelope line) h = absurd (fault_of_tables text (BadEnvelope line) h)
  refuses_tables Read h = absurd (fault_of_tables text Read h)
  refuses_tables TooLong h = absurd (fault_of_tables text TooLong h)
  refuses_tables TooManyNames h = absurd (fault_of_tables text TooManyNames h)
  refuses_tables TooManyOwners h = absurd (fault_of_tables text TooManyOwners h)
  refuses_tables TooManyPairs h = absurd (fault_of_tables text TooManyPairs h)
  refuses_tables Write h = absurd (fault_of_tables text Write h)

module _ (limits : Limits) (text : List ℕ) (size : length text ≤ limits.bytes) (tables : Job) (is : tables_of text ≡ Ok tables) where
  -- files and tables that aren't checked
  pub refuses_scope : (scope : Scope) (fault : RunFault) → IsCheckRefused limits scope tables fault → RefusesCheckBytes limits scope text fault
  refuses_scope Texts fault h = rw h tt
  refuses_scope Aliases (BadJob line) h = absurd h
  refuses_scope Aliases (BadSetting line) h = absurd h
  refuses_scope Aliases (BadEnvelope line) h = absurd h
  refuses_scope Aliases Memory h = tt
  refuses_scope Aliases Read h = absurd h
  refuses_scope Aliases TooLong h = absurd h
  refuses_scope Aliases TooManyNames h = record { size = size; tables = tables; read = is; refused = h }
  refuses_scope Aliases TooManyOwners h = record { size = size; tables = tables; read = is; refused = h }
  refuses_scope Aliases TooManyPairs h = record { size = size; tables = tables; read = is; refused = h }
  refuses_scope Aliases Write h = absurd h
