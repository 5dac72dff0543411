use Rattle.relay_text.proofs.TextSets.{texts_ascend}
use Rattle.relay_text.proofs.text_set.TextSet.into_seq.Goals as goal

pub returns-clause-ascending : goal.returns-clause-ascending
returns-clause-ascending c = rw (← c.self.view_is) (texts_ascend _ c.len.ensures.ordered)
