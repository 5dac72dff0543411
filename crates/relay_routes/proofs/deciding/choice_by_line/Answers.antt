use Rattle.relay_routes.proofs.DecidingFacts.{choice_is}
use Rattle.relay_routes.proofs.deciding.choice_by_line.Goals as goal

pub returns : goal.returns
returns c = choice_is
