use Rattle.std.proofs.Common.{◌∙◌}
use Rattle.aliasplan_explain.proofs.RunFacts.{transaction_told}
use Rattle.aliasplan_explain.proofs.running.answer_job.Goals as goal

pub returns-clause-explained : goal.returns-clause-explained
returns-clause-explained g c =
    let telling = c.in_ok-telling.telling in
    let planned = c.in_ok-telling.ensures.explained in
    let e = planned.2.0 in
    let told = planned.2.2 in
    (c.in_ok-telling.ensures.within, (planned.0, planned.1, (e, planned.2.1, c.in_ok-text.ensures e told, c.is_in_plan-in_plan.ensures ∙ transaction_told e.answers telling.answers told.answers)))
