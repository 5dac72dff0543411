use Rattle.std.proofs.lemmas.Result.{IfOk-weaker}
use Rattle.aliasplan_explain.proofs.explaining.telling_of.Goals as goal

pub returns : goal.returns
returns g c = IfOk-weaker c.telling_along-telling.result _ _ (λ telling is. (c.in_ok-planned.planned.1, c.in_ok-planned.ensures.plan, is)) c.telling_along-telling.ensures
