use Rattle.std.proofs.Common.{◌∙◌, sym}
use Rattle.std.specs.Prelude.{IsTrue}
use Rattle.relay_text.specs.Bytes.{has_text}
use Rattle.relay_planning.proofs.PlanFacts.{plan_over}
use Rattle.relay_planning.proofs.with_findings.plan_with_found.Goals as goal

pub returns-in-Ok-plan_with-clause-plan : goal.returns-in-Ok-plan_with-clause-plan
returns-in-Ok-plan_with-clause-plan c =
    let same = c.in-Ok.ensures.all in
    plan_over c.args.job.now c.in-Ok-plan_with.plan (λ q. IsTrue (has_text c.in-Ok.found.lines q)) (λ q. IsTrue (has_text c.args.lines q)) (λ q. (λ has. sym (same q) ∙ has, λ has. same q ∙ has)) c.in-Ok-plan_with.ensures.plan
