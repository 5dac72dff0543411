use Rattle.std.proofs.Common.{◌∙◌, sym}
use Rattle.std.specs.Prelude.{IsTrue}
use Rattle.std.proofs.lemmas.Result.{IfOk-weaker}
use Rattle.relay_text.specs.Bytes.{has_text}
use Rattle.relay_planning.proofs.PlanFacts.{plan_over}
use Rattle.relay_planning.proofs.planning.plan_of.Goals as goal

pub returns-in-Ok-clause-plan : goal.returns-in-Ok-clause-plan
returns-in-Ok-clause-plan g c =
    let job = c.args.job.now in
    let same = c.in-Ok.ensures.all in
    IfOk-weaker c.plan_with.result _ _
    (λ plan is. plan_over job plan (λ q. IsTrue (has_text c.in-Ok.findings q)) (λ q. IsTrue (has_text c.args.lines q)) (λ q. (λ has. sym (same q) ∙ has, λ has. same q ∙ has)) is)
    c.plan_with.ensures.plan
