use Rattle.std.proofs.Common.{◌≡◌, length, ◌≤◌}
use Rattle.relay_job.specs.JobParts.{commands_at}
use Rattle.relay_job.proofs.command.Command.split_from.Given as goal

-- The lines that were passed are of white space alone.
abbrev pub invariant-loop-line : goal.invariant-loop-line
invariant-loop-line l = record {
  same : commands_at l.section ≡ commands_at l.place;
  behind : length l.place.rest.now ≤ length l.section.rest.now;
}

abbrev pub decreases-loop-line : goal.decreases-loop-line
decreases-loop-line l = length l.place.rest.now
