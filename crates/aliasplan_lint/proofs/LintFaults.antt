-- Why nothing is told of a text.
use Rattle.std.proofs.Common.{◌≡◌, ℕ, List, [], ◌∷◌, Option, Some, None, option_map, Ok, Err, inl, inr, subst}
use Rattle.relay_text.specs.Bytes.{first_of}
use Rattle.relay_job.specs.JobText.{bad_job, bad_setting, job_unless, sections_of}
use Rattle.relay_job.specs.declared.job.Job.{Job}
use Rattle.relay_job.specs.declared.fault.RunFault.{RunFault}
use Rattle.relay_job.specs.declared.fault.RunFault.TheVariants.{Read, TooLong, BadJob, BadSetting, BadEnvelope, TooManyNames, TooManyOwners, TooManyPairs, Write, Memory}
use Rattle.relay_job.specs.JobAnswers.{Fails}
use Rattle.relay_job.specs.Tables.{tables_of, without_envelope}
use Rattle.relay_planning.specs.declared.options.Limits.{Limits}
use Rattle.relay_planning.specs.Limits.{IsRefused}
use Rattle.aliasplan.specs.Checks.{to_each_alias}
use Rattle.aliasplan_lint.specs.Runs.{RefusesLint}

-- files and tables are refused for one of their lines
abbrev IsTablesFault : RunFault → Type 0
IsTablesFault Write = ⊥
IsTablesFault fault = Unit {0}

fault_among : (a b : Option ℕ) (tables : Job) (fault : RunFault) → job_unless (first_of (option_map BadJob a ∷ option_map BadSetting b ∷ [])) tables ≡ Err fault → IsTablesFault fault
fault_among (Some n) b tables fault h = let e : BadJob n ≡ fault = cc in subst IsTablesFault e tt
fault_among None (Some n) tables fault h = let e : BadSetting n ≡ fault = cc in subst IsTablesFault e tt
fault_among None None tables fault h = cc

fault_of_tables : (text : List ℕ) (fault : RunFault) → tables_of text ≡ Err fault → IsTablesFault fault
unfolding tables_of
fault_of_tables text fault h = fault_among (bad_job text) (bad_setting text) (without_envelope (sections_of text)) fault h

module _ (limits : Limits) (text : List ℕ) where
  -- a text that isn't files and tables
  pub no_tables : (fault : RunFault) → Fails fault (tables_of text) → RefusesLint limits text fault
  no_tables Memory h = tt
  no_tables Write h = absurd (fault_of_tables text Write h)
  no_tables (BadJob line) h = inl h
  no_tables (BadSetting line) h = inl h
  no_tables (BadEnvelope line) h = inl h
  no_tables Read h = inl h
  no_tables TooLong h = inl h
  no_tables TooManyNames h = inl h
  no_tables TooManyOwners h = inl h
  no_tables TooManyPairs h = inl h

  -- files and tables of which too much comes
  pub no_findings : (tables : Job) → tables_of text ≡ Ok tables → (fault : RunFault) → IsRefused limits (to_each_alias tables) fault → RefusesLint limits text fault
  no_findings tables is Memory h = tt
  no_findings tables is Write h = absurd h
  no_findings tables is (BadJob line) h = inr (tables, is, h)
  no_findings tables is (BadSetting line) h = inr (tables, is, h)
  no_findings tables is (BadEnvelope line) h = inr (tables, is, h)
  no_findings tables is Read h = inr (tables, is, h)
  no_findings tables is TooLong h = inr (tables, is, h)
  no_findings tables is TooManyNames h = inr (tables, is, h)
  no_findings tables is TooManyOwners h = inr (tables, is, h)
  no_findings tables is TooManyPairs h = inr (tables, is, h)
