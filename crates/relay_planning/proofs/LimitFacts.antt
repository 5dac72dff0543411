-- What refuses a job.
use Rattle.std.proofs.Common.{◌≡◌, ◌≤◌, arith}
use Rattle.std.specs.Prelude.{Err, None}
use Rattle.relay_tables.specs.GraphParts.{GraphParts}
use Rattle.relay_tables.specs.Graphs.{refusal_of, Refuses}
use Rattle.relay_tables.specs.declared.fault.TableFault.{TableFault}
use Rattle.relay_tables.specs.declared.fault.TableFault.TheVariants.{TooManyNames, TooManyOwners, Memory}
use Rattle.relay_job.specs.declared.job.Job.{Job}
use Rattle.relay_planning.specs.declared.options.Limits.{Limits}
use Rattle.relay_planning.specs.Delivery.{directory_of}
use Rattle.relay_planning.specs.Limits.{name_count, owned_count, run_fault_of, IsRefused}

module _ (limits : Limits) (job : Job) where
  pub refused_by : (fault : TableFault) → Refuses {A = GraphParts} (Err fault) (refusal_of (directory_of job) job.recipients limits.names limits.owners) → IsRefused limits job (run_fault_of fault)
  refused_by TooManyNames is = grind arith
  refused_by TooManyOwners is = grind arith
  refused_by Memory is = tt

  pub within_by : refusal_of (directory_of job) job.recipients limits.names limits.owners ≡ None → (name_count job ≤ limits.names) × (owned_count job ≤ limits.owners)
  within_by is = grind arith
