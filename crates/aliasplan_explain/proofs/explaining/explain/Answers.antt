use Rattle.std.proofs.Common.{subst, sym}
use Rattle.std.proofs.lemmas.Result.{IfErr-weaker, IfOk-weaker}
use Rattle.relay_job.specs.declared.fault.RunFault.{RunFault}
use Rattle.relay_planning.specs.Limits.{IsRefused}
use Rattle.aliasplan_explain.proofs.explaining.explain.Goals as goal

pub returns-clause-within : goal.returns-clause-within
returns-clause-within g c = IfOk-weaker c.telling_from-telling.result _ _ (λ telling is. c.in_ok-read.ensures.within) c.telling_from-telling.ensures.telling

pub returns-clause-refused : goal.returns-clause-refused
returns-clause-refused g c =
    IfErr-weaker c.telling_from-telling.result _ _ (λ fault is. subst (λ (f : RunFault). IsRefused c.args.crew.now.limits c.args.job.now f) (sym is) tt) c.telling_from-telling.ensures.memory
