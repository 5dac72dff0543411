use Rattle.relay_job.proofs.LineEndFacts.{first_ends_once}
use Rattle.relay_job.proofs.place.Place.split.Goals as goal

pub invariant_of-result : goal.invariant_of-result
invariant_of-result c = record { ends_once = first_ends_once c.args.self.now.rest.now c.in_ok-raw.raw.now _ c.in_ok-raw.ensures.lines }
