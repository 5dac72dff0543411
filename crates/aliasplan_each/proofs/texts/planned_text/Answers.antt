use Rattle.aliasplan_each.proofs.texts.planned_text.Goals as goal

pub returns-then-returns-clause-planned : goal.returns-then-returns-clause-planned
returns-then-returns-clause-planned g c = rw c.if-returns.true c.returned_text.ensures.planned

pub returns-then-returns-clause-refused : goal.returns-then-returns-clause-refused
returns-then-returns-clause-refused g c = rw c.if-returns.true c.returned_text.ensures.refused

pub returns-else-returns-clause-planned : goal.returns-else-returns-clause-planned
returns-else-returns-clause-planned g c = rw c.if-returns.false c.plan_text.ensures.planned

pub returns-else-returns-clause-refused : goal.returns-else-returns-clause-refused
returns-else-returns-clause-refused g c = rw c.if-returns.false c.plan_text.ensures.refused
