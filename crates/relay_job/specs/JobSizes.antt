-- How large a job is.
use Rattle.std.specs.Prelude.{ℕ, ◌+◌, length, sum_by}
use Rattle.relay_job.specs.declared.job.Job.{Job}
use Rattle.relay_job.specs.declared.job.JobInclude.{JobInclude}

-- the bytes of an include file and of its path
abbrev pub include_size : JobInclude → ℕ
include_size i = length i.path + length i.bytes

-- the bytes of the sections that a job keeps, and of the paths and bytes of its include files
abbrev pub job_size : Job → ℕ
job_size job = length job.aliases + length job.mailboxes + length job.transport + length job.mx + sum_by include_size job.includes
