use Rattle.std.proofs.Common.{not, ap, ◌∙◌}
use Rattle.relay_text.proofs.TextSets.{has_text-insert, has_text-found}
use Rattle.relay_text.proofs.text_set.TextSet.insert.Goals as goal

pub returns-clause-ok : goal.returns-clause-ok
returns-clause-ok c = λ q. rw (c.in_ok-is_new.ensures.keys, ← c.self.view_is) (has_text-insert q _ _)

pub returns-clause-fresh : goal.returns-clause-fresh
returns-clause-fresh c = rw (← c.self.view_is) (c.in_ok-is_new.ensures.added ∙ ap not (has_text-found c.args.text.items _))
