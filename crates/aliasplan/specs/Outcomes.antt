-- What the calls answer, and why they refuse.
use Rattle.std.specs.Prelude.{◌≡◌, ℕ, ◌<◌, ◌≤◌, List, [], length, take, Option, Ok, Err, ⊤}
use Rattle.std.specs.Io.KnownBytes.{Appends}
use Rattle.relay_tables.specs.Graphs.{nodes_of}
use Rattle.relay_wire.specs.declared.plan.Plan.{Plan}
use Rattle.relay_job.specs.declared.job.Job.{Job}
use Rattle.relay_job.specs.declared.fault.RunFault.{RunFault}
use Rattle.relay_job.specs.declared.fault.RunFault.TheVariants.{Read, TooLong, BadJob, BadSetting, BadEnvelope, TooManyNames, TooManyOwners, TooManyPairs, Write, Memory}
use Rattle.relay_job.specs.JobText.{job_of}
use Rattle.relay_planning.specs.declared.options.Form.{Form}
use Rattle.relay_planning.specs.declared.options.Limits.{Limits}
use Rattle.relay_planning.specs.declared.summary.Summary.{Summary}
use Rattle.relay_planning.specs.Delivery.{directory_of}
use Rattle.relay_planning.specs.Limits.{owned_count, IsWithin, IsRefused}
use Rattle.relay_planning.specs.Written.{text_in, summary_of}
use Rattle.relay_planning.specs.Plans.{IsFewest, IsPlanOf, IsSoundFor}

-- tables that are within the limits, whatever the envelope
pub record AreTableCountsWithin (limits : Limits) (tables : Job) : Type 0 where
  pub names : length (nodes_of (directory_of tables) []) ≤ limits.names
  pub owners : owned_count tables ≤ limits.owners

-- Why no envelope is planned with these tables: they alone have too many names, else too many owners. Memory may run out at any moment.
abbrev pub HasRefusedTables : Limits → Job → RunFault → Type 0
HasRefusedTables limits tables TooManyNames = limits.names < length (nodes_of (directory_of tables) [])
HasRefusedTables limits tables TooManyOwners = (length (nodes_of (directory_of tables) []) ≤ limits.names) × (limits.owners < owned_count tables)
HasRefusedTables limits tables Memory = ⊤
HasRefusedTables limits tables TooManyPairs = ⊥
HasRefusedTables limits tables Read = ⊥
HasRefusedTables limits tables TooLong = ⊥
HasRefusedTables limits tables (BadJob line) = ⊥
HasRefusedTables limits tables (BadSetting line) = ⊥
HasRefusedTables limits tables (BadEnvelope line) = ⊥
HasRefusedTables limits tables Write = ⊥

-- A run that answers: the bytes read are within the limit and are a job within the limits; what is written is the text of its plan.
pub record Plans (limits : Limits) (form : Form) (input : List ℕ) (old new : Option (List ℕ)) (summary : Summary) : Type 0 where
  pub size : length input ≤ limits.bytes
  pub job : Job
  pub read : job_of input ≡ Ok job
  pub within : IsWithin limits job
  pub plan : Plan
  pub planned : IsPlanOf job plan
  pub written : Appends old new (text_in form plan)
  pub summed : summary ≡ summary_of plan
  pub sound : IsSoundFor job plan.transactions
  pub fewest : IsFewest job plan.transactions

-- What becomes of a job's bytes: the text of its plan, and its numbers.
pub record IsAnswer (limits : Limits) (form : Form) (input text : List ℕ) (summary : Summary) : Type 0 where
  pub size : length input ≤ limits.bytes
  pub job : Job
  pub read : job_of input ≡ Ok job
  pub within : IsWithin limits job
  pub plan : Plan
  pub planned : IsPlanOf job plan
  pub written : text ≡ text_in form plan
  pub summed : summary ≡ summary_of plan
  pub sound : IsSoundFor job plan.transactions
  pub fewest : IsFewest job plan.transactions

-- the bytes are within the limit, and no job
pub record RefusesText (limits : Limits) (input : List ℕ) (fault : RunFault) : Type 0 where
  pub size : length input ≤ limits.bytes
  pub read : job_of input ≡ Err fault

-- the bytes are within the limit, and a job that is refused
pub record RefusesJob (limits : Limits) (input : List ℕ) (fault : RunFault) : Type 0 where
  pub size : length input ≤ limits.bytes
  pub job : Job
  pub read : job_of input ≡ Ok job
  pub refused : IsRefused limits job fault

-- A run that refuses because of the bytes that it read: more than the limit, or within it and at fault. Reading and writing have clauses
-- of their own.
abbrev pub Refuses : Limits → List ℕ → RunFault → Type 0
Refuses limits input Read = ⊤
Refuses limits input TooLong = limits.bytes < length input
Refuses limits input (BadJob line) = RefusesText limits input (BadJob line)
Refuses limits input (BadSetting line) = RefusesText limits input (BadSetting line)
Refuses limits input (BadEnvelope line) = RefusesText limits input (BadEnvelope line)
Refuses limits input TooManyNames = RefusesJob limits input TooManyNames
Refuses limits input TooManyOwners = RefusesJob limits input TooManyOwners
Refuses limits input TooManyPairs = RefusesJob limits input TooManyPairs
Refuses limits input Write = ⊤
Refuses limits input Memory = ⊤

-- the faults of a job's bytes, which are within the limit and read whole
abbrev pub RefusesBytes : Limits → List ℕ → RunFault → Type 0
RefusesBytes limits input Read = ⊥
RefusesBytes limits input TooLong = ⊥
RefusesBytes limits input Write = ⊥
RefusesBytes limits input (BadJob line) = Refuses limits input (BadJob line)
RefusesBytes limits input (BadSetting line) = Refuses limits input (BadSetting line)
RefusesBytes limits input (BadEnvelope line) = Refuses limits input (BadEnvelope line)
RefusesBytes limits input TooManyNames = Refuses limits input TooManyNames
RefusesBytes limits input TooManyOwners = Refuses limits input TooManyOwners
RefusesBytes limits input TooManyPairs = Refuses limits input TooManyPairs
RefusesBytes limits input Memory = ⊤

-- A failed write: a plan was due, and a front of its text is written behind what was there.
pub record WritesFront (limits : Limits) (form : Form) (input : List ℕ) (old new : Option (List ℕ)) : Type 0 where
  pub size : length input ≤ limits.bytes
  pub job : Job
  pub read : job_of input ≡ Ok job
  pub within : IsWithin limits job
  pub plan : Plan
  pub planned : IsPlanOf job plan
  pub count : ℕ
  pub written : Appends old new (take count (text_in form plan))

-- the faults of reading alone
abbrev pub IsReadFault : RunFault → Type 0
IsReadFault Read = ⊤
IsReadFault TooLong = ⊤
IsReadFault Memory = ⊤
IsReadFault (BadJob line) = ⊥
IsReadFault (BadSetting line) = ⊥
IsReadFault (BadEnvelope line) = ⊥
IsReadFault TooManyNames = ⊥
IsReadFault TooManyOwners = ⊥
IsReadFault TooManyPairs = ⊥
IsReadFault Write = ⊥
