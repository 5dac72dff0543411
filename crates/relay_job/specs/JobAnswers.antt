-- What a text that is to be a job answers.
use Rattle.std.specs.Prelude.{◌≡◌, ℕ, ◌≤◌, List, length, Result, Ok, Err, ⊤}
use Rattle.relay_job.specs.declared.job.Job.{Job}
use Rattle.relay_job.specs.declared.fault.RunFault.{RunFault}
use Rattle.relay_job.specs.declared.fault.RunFault.TheVariants.{Memory}
use Rattle.relay_job.specs.JobText.{job_of}

-- a job that some text of at most this many bytes is
abbrev pub IsJobWithin : ℕ → Job → Type 0
IsJobWithin bytes job = (text : List ℕ) × (length text ≤ bytes) × (job_of text ≡ Ok job)

-- what a text is, or its first fault, unless memory ran out
abbrev pub Fails : {A : Type 0} → RunFault → Result A RunFault → Type 0
Fails Memory given = ⊤
Fails fault given = given ≡ Err fault

abbrev pub Answers : {A : Type 0} → Result A RunFault → Result A RunFault → Type 0
Answers (Ok a) given = given ≡ Ok a
Answers (Err fault) given = Fails fault given
