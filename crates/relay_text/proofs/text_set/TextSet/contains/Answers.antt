use Rattle.std.proofs.Common.{◌∙◌}
use Rattle.relay_text.proofs.TextSets.{has_text-found}
use Rattle.relay_text.proofs.text_set.TextSet.contains.Goals as goal

pub returns : goal.returns
returns c = rw (← c.self.view_is) (c.contains.ensures ∙ has_text-found c.args.text.now _)
