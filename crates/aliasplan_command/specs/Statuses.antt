-- What the process ends with.
use Rattle.std.specs.Prelude.{◌≡◌, ◌≢◌, ℕ}
use Rattle.aliasplan_words.specs.declared.request.Request.{Request}
use Rattle.aliasplan_words.specs.declared.request.Request.TheVariants.{Plan, Each, Domains, Check, Explain, Expand, Gather, Help, Unknown, Fault}
use Rattle.aliasplan_command.specs.declared.status.Status.{Status}
use Rattle.aliasplan_command.specs.declared.status.Status.TheVariants.{Done, Found, Refused, OutOfMemory, Broken, CommandLine}
use Rattle.relay_job.specs.declared.fault.RunFault.{RunFault}
use Rattle.relay_job.specs.declared.fault.RunFault.TheVariants.{Read, TooLong, BadJob, BadSetting, BadEnvelope, TooManyNames, TooManyOwners, TooManyPairs, Write, Memory}

-- 2 where the job is refused, 3 where memory ran out, 4 where a device failed
abbrev pub code_of : RunFault → ℕ
code_of Read = 4
code_of TooLong = 2
code_of (BadJob line) = 2
code_of (BadSetting line) = 2
code_of (BadEnvelope line) = 2
code_of TooManyNames = 2
code_of TooManyOwners = 2
code_of TooManyPairs = 2
code_of Write = 4
code_of Memory = 3

-- 0 and 1 where the answer is written: a plan without findings and with them, an address that is in the plan and one that isn't, an expansion that has addresses and one that has none; 5 where the command line asks for nothing that there is
abbrev pub code_after : Status → ℕ
code_after Done = 0
code_after Found = 1
code_after Refused = 2
code_after OutOfMemory = 3
code_after Broken = 4
code_after CommandLine = 5

-- the command line is at fault where it asks for nothing that there is, and only there; only a plan and a check have findings, only an explanation is of an address that isn't in the plan, and only an expansion has no address
abbrev pub IsStatusOf : Request → Status → Type 0
IsStatusOf (Plan work output job detail) status = status ≢ CommandLine
IsStatusOf (Each work output tables path detail) status = status ≢ CommandLine
IsStatusOf (Domains work job detail) status = (status ≢ Found) × (status ≢ CommandLine)
IsStatusOf (Check work scope job detail) status = status ≢ CommandLine
IsStatusOf (Explain work asked job detail) status = status ≢ CommandLine
IsStatusOf (Expand work expansion job detail) status = status ≢ CommandLine
IsStatusOf (Gather paths detail) status = (status ≢ Found) × (status ≢ CommandLine)
IsStatusOf Help status = status ≡ Done
IsStatusOf Unknown status = status ≡ CommandLine
IsStatusOf (Fault fault) status = code_after status ≡ code_of fault
