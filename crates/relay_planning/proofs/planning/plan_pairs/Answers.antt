use Rattle.std.proofs.Common.{◌⊎◌}
use Rattle.std.specs.Prelude.{IsTrue}
use Rattle.std.proofs.lemmas.Result.{IfOk-weaker}
use Rattle.relay_text.specs.Bytes.{has_text}
use Rattle.relay_planning.specs.Report.{routes, IsLineOf}
use Rattle.relay_planning.proofs.PlanFacts.{plan_over}
use Rattle.relay_planning.proofs.planning.plan_pairs.Goals as goal

pub returns-clause-plan : goal.returns-clause-plan
returns-clause-plan g c =
    let job = c.args.job.now in
    let last = c.plan_addresses.new.lines in
    IfOk-weaker c.plan_of.result _ _
    (λ plan is. plan_over job plan (λ q. IsTrue (has_text last q)) (λ q. IsTrue (has_text c.args.lines q) ⊎ IsLineOf job routes q) c.in_ok-transactions.ensures.lines is)
    c.plan_of.ensures.plan
