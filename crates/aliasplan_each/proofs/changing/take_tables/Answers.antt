use Rattle.std.proofs.Common.{refl}
use Rattle.aliasplan_each.specs.Changes.IsChange.{taken, kept}
use Rattle.aliasplan_each.proofs.changing.take_tables.Goals as goal

pub returns-in-Ok-clause-changed : goal.returns-in-Ok-clause-changed
returns-in-Ok-clause-changed g c = let h = c.in-Ok.ensures.read in taken h.bytes h.is h.answer_is

pub returns-in_ok-put_kept-in-Err-clause-changed : goal.returns-in_ok-put_kept-in-Err-clause-changed
returns-in_ok-put_kept-in-Err-clause-changed g c = kept _ c.in-Err.ensures.refused (rw c.new-answer.ensures.items at c.in_ok-put_kept-in-Err.ensures) refl
