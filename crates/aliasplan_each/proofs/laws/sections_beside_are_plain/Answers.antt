use Rattle.aliasplan_each.proofs.AskFacts.{sections-plain}
use Rattle.aliasplan_each.proofs.laws.sections_beside_are_plain.Goals as goal

pub returns : goal.returns
returns c = sections-plain
