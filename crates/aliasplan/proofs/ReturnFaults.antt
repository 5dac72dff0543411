-- Which faults the returns of a job and of its bytes have.
use Rattle.std.proofs.Common.{◌≡◌, ℕ, ◌≤◌, List, length, Ok, inl}
use Rattle.relay_job.specs.declared.job.Job.{Job}
use Rattle.relay_job.specs.declared.fault.RunFault.{RunFault}
use Rattle.relay_job.specs.declared.fault.RunFault.TheVariants.{Read, TooLong, BadJob, BadSetting, BadEnvelope, TooManyNames, TooManyOwners, TooManyPairs, Write, Memory}
use Rattle.relay_job.specs.JobText.{job_of}
use Rattle.relay_job.specs.JobAnswers.{Fails}
use Rattle.relay_job.proofs.Faults.{fault_of_job}
use Rattle.relay_planning.specs.declared.options.Limits.{Limits}
use Rattle.relay_planning.specs.Limits.{IsRefused}
use Rattle.aliasplan.specs.Returns.{IsUnreturned, RefusesReturnBytes}

-- a job whose plan is refused
pub unreturned : (limits : Limits) (job : Job) (fault : RunFault) → IsRefused limits job fault → IsUnreturned limits job fault
unreturned limits job (BadJob line) h = h
unreturned limits job (BadSetting line) h = h
unreturned limits job (BadEnvelope line) h = h
unreturned limits job Memory h = h
unreturned limits job Read h = h
unreturned limits job TooLong h = h
unreturned limits job TooManyNames h = h
unreturned limits job TooManyOwners h = h
unreturned limits job TooManyPairs h = inl h
unreturned limits job Write h = h

module _ (limits : Limits) (text : List ℕ) (size : length text ≤ limits.bytes) where
  -- a text that is no job
  pub refuses_text : (fault : RunFault) → Fails fault (job_of text) → RefusesReturnBytes limits text fault
  refuses_text (BadJob line) h = record { size = size; read = h }
  refuses_text (BadSetting line) h = record { size = size; read = h }
  refuses_text (BadEnvelope line) h = record { size = size; read = h }
  refuses_text Memory h = tt
  refuses_text Read h = absurd (fault_of_job text Read h)
  refuses_text TooLong h = absurd (fault_of_job text TooLong h)
  refuses_text TooManyNames h = absurd (fault_of_job text TooManyNames h)
  refuses_text TooManyOwners h = absurd (fault_of_job text TooManyOwners h)
  refuses_text TooManyPairs h = absurd (fault_of_job text TooManyPairs h)
  refuses_text Write h = absurd (fault_of_job text Write h)

  -- a job whose returns aren't told
  pub refuses_job : (job : Job) → job_of text ≡ Ok job → (fault : RunFault) → IsUnreturned limits job fault → RefusesReturnBytes limits text fault
  refuses_job job is (BadJob line) h = absurd h
  refuses_job job is (BadSetting line) h = absurd h
  refuses_job job is (BadEnvelope line) h = absurd h
  refuses_job job is Memory h = tt
  refuses_job job is Read h = absurd h
  refuses_job job is TooLong h = absurd h
  refuses_job job is TooManyNames h = record { size = size; job = job; read = is; refused = h }
  refuses_job job is TooManyOwners h = record { size = size; job = job; read = is; refused = h }
  refuses_job job is TooManyPairs h = record { size = size; job = job; read = is; refused = h }
  refuses_job job is Write h = absurd h
