-- How much a job may have, and why it isn't planned.
use Rattle.std.specs.Prelude.{ℕ, ◌<◌, ◌≤◌, length, ⊤}
use Rattle.relay_tables.specs.Graphs.{nodes_of, owner_count}
use Rattle.relay_tables.specs.declared.fault.TableFault.{TableFault}
use Rattle.relay_tables.specs.declared.fault.TableFault.TheVariants as faults
use Rattle.relay_job.specs.declared.job.Job.{Job}
use Rattle.relay_job.specs.declared.fault.RunFault.{RunFault}
use Rattle.relay_job.specs.declared.fault.RunFault.TheVariants.{Read, TooLong, BadJob, BadSetting, BadEnvelope, TooManyNames, TooManyOwners, TooManyPairs, Write, Memory}
use Rattle.relay_planning.specs.declared.options.Limits.{Limits}
use Rattle.relay_planning.specs.declared.options.Options.{Options}
use Rattle.relay_planning.specs.Delivery.{directory_of, HasMorePairs, HasAtMostPairs}

-- the ranges of the options and the limits
pub record AreOptions (o : Options) : Type 0 where
  pub some_worker : 1 ≤ o.workers
  pub workers : o.workers ≤ 64
  pub some_cut : 1 ≤ o.cut
  pub cut : o.cut ≤ 1048576

pub record AreLimits (l : Limits) : Type 0 where
  pub bytes : l.bytes ≤ 67108864
  pub names : l.names ≤ 16777216
  pub owners : l.owners ≤ 65535
  pub pairs : l.pairs ≤ 16777216

abbrev pub name_count : Job → ℕ
name_count job = length (nodes_of (directory_of job) job.recipients)

abbrev pub owned_count : Job → ℕ
owned_count job = owner_count (directory_of job)

-- a job within the limits
pub record IsWithin (limits : Limits) (job : Job) : Type 0 where
  pub names : name_count job ≤ limits.names
  pub owners : owned_count job ≤ limits.owners
  pub pairs : HasAtMostPairs job limits.pairs

-- what a fault of the tables is to a run
abbrev pub run_fault_of : TableFault → RunFault
run_fault_of faults.TooManyNames = TooManyNames
run_fault_of faults.TooManyOwners = TooManyOwners
run_fault_of faults.Memory = Memory

-- Why a job isn't planned: too many names, else too many owners, else too many pairs. Memory may run out at any moment.
abbrev pub IsRefused : Limits → Job → RunFault → Type 0
IsRefused limits job TooManyNames = limits.names < name_count job
IsRefused limits job TooManyOwners = (name_count job ≤ limits.names) × (limits.owners < owned_count job)
IsRefused limits job TooManyPairs = (name_count job ≤ limits.names) × (owned_count job ≤ limits.owners) × HasMorePairs job limits.pairs
IsRefused limits job Memory = ⊤
IsRefused limits job Read = ⊥
IsRefused limits job TooLong = ⊥
IsRefused limits job (BadJob line) = ⊥
IsRefused limits job (BadSetting line) = ⊥
IsRefused limits job (BadEnvelope line) = ⊥
IsRefused limits job Write = ⊥
