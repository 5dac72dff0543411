use Rattle.relay_tables.proofs.Counts.{at_most, at_least}
use Rattle.relay_tables.proofs.counting.names_are_counted.Goals as goal

pub returns-clause-most : goal.returns-clause-most
returns-clause-most c = at_most

pub returns-clause-least : goal.returns-clause-least
returns-clause-least c = at_least
