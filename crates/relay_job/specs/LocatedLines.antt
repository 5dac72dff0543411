-- Lines of a job with their numbers.
use Rattle.relay_job.specs.declared.located.LocatedLine.{LocatedLine}
use Rattle.relay_job.specs.Places.{line_of}
use Rattle.relay_job.specs.Reasons.{Located}

abbrev pub located_in : LocatedLine → Located
located_in l = record { line = line_of l.line; own = l.own_number }
