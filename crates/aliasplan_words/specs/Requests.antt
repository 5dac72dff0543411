-- What a command line asks for.
use Rattle.std.specs.Prelude.{◌≡◌, ◌⊎◌, ⊤}
use Rattle.relay_planning.specs.Limits.{AreOptions, AreLimits}
use Rattle.relay_job.specs.declared.fault.RunFault.TheVariants.{Read, Write, Memory}
use Rattle.aliasplan_words.specs.declared.work.Work.{Work}
use Rattle.aliasplan_words.specs.declared.request.Request.{Request}
use Rattle.aliasplan_words.specs.declared.request.Request.TheVariants.{Plan, Each, Domains, Check, Explain, Expand, Gather, Help, Unknown, Fault}

-- options and limits in range
abbrev pub IsWork : Work → Type 0
IsWork work = AreOptions work.options × AreLimits work.limits

-- a plan, plans of envelopes, a check, an explanation, an expansion and domains are asked for with options and limits in range, and no more than memory,
-- standard output and the source of random bytes fail a command line
abbrev pub IsRequest : Request → Type 0
IsRequest (Plan work output job detail) = IsWork work
IsRequest (Each work output tables path detail) = IsWork work
IsRequest (Domains work job detail) = IsWork work
IsRequest (Check work scope job detail) = IsWork work
IsRequest (Explain work asked job detail) = IsWork work
IsRequest (Expand work expansion job detail) = IsWork work
IsRequest (Gather paths detail) = ⊤
IsRequest Help = ⊤
IsRequest Unknown = ⊤
IsRequest (Fault fault) = (fault ≡ Memory) ⊎ (fault ≡ Write) ⊎ (fault ≡ Read)
