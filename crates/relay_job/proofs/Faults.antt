-- Which faults a job's bytes have.
use Rattle.std.proofs.Common.{◌≡◌, ℕ, List, [], ◌∷◌, Option, Some, None, option_map, Err, subst}
use Rattle.relay_text.specs.Bytes.{first_of}
use Rattle.relay_job.specs.declared.job.Job.{Job}
use Rattle.relay_job.specs.declared.fault.RunFault.{RunFault}
use Rattle.relay_job.specs.declared.fault.RunFault.TheVariants.{Read, TooLong, BadJob, BadSetting, BadEnvelope, TooManyNames, TooManyOwners, TooManyPairs, Write, Memory}
use Rattle.relay_job.specs.JobText.{job_of, job_unless, bad_job, bad_setting, bad_envelope, sections_of, job_settings, envelope_part}

-- the three faults of a job's lines
abbrev pub IsJobFault : RunFault → Type 0
IsJobFault (BadJob line) = Unit {0}
IsJobFault (BadSetting line) = Unit {0}
IsJobFault (BadEnvelope line) = Unit {0}
IsJobFault Read = ⊥
IsJobFault TooLong = ⊥
IsJobFault TooManyNames = ⊥
IsJobFault TooManyOwners = ⊥
IsJobFault TooManyPairs = ⊥
IsJobFault Write = ⊥
IsJobFault Memory = ⊥

fault_among : (a b c : Option ℕ) (job : Job) (fault : RunFault)
    → job_unless (first_of (option_map BadJob a ∷ option_map BadSetting b ∷ option_map BadEnvelope c ∷ [])) job ≡ Err fault → IsJobFault fault
fault_among (Some n) b c job fault h = let e : BadJob n ≡ fault = cc in subst IsJobFault e tt
fault_among None (Some n) c job fault h = let e : BadSetting n ≡ fault = cc in subst IsJobFault e tt
fault_among None None (Some n) job fault h = let e : BadEnvelope n ≡ fault = cc in subst IsJobFault e tt
fault_among None None None job fault h = cc

pub fault_of_job : (text : List ℕ) (fault : RunFault) → job_of text ≡ Err fault → IsJobFault fault
unfolding job_of
fault_of_job text fault h = fault_among (bad_job text) (bad_setting text) (bad_envelope (job_settings text).origin (envelope_part text)) (sections_of text) fault h
