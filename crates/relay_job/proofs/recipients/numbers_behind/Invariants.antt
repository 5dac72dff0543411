use Rattle.std.proofs.Common.{◌≡◌, ◌++◌, length}
use Rattle.relay_job.specs.JobParts.{commands_at}
use Rattle.relay_job.specs.RecipientLines.{numbers_behind}
use Rattle.relay_job.proofs.recipients.numbers_behind.Given as goal

-- the numbers so far, with those of the commands left, are those of all
abbrev pub invariant-loop-command : goal.invariant-loop-command
invariant-loop-command l = l.numbers.items ++ numbers_behind l.heading (commands_at l.place) ≡ numbers_behind l.heading (commands_at l.initial.place)

abbrev pub decreases-loop-command : goal.decreases-loop-command
decreases-loop-command l = length l.place.rest.now
