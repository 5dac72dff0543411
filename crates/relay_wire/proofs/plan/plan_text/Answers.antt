use Rattle.std.proofs.Common.{List, ℕ, ◌++◌, ap, ◌∙◌}
use Rattle.std.proofs.lemmas.Result.{on_ok_weaker}
use Rattle.relay_wire.specs.PlanText.{plan_text_of}
use Rattle.relay_wire.proofs.plan.plan_text.Goals as goal

pub returns : goal.returns
returns c =
    let text : List ℕ = plan_text_of c.args.plan.now in
    c.text_put.ensures text (on_ok_weaker c.put_plan-put.result (λ put. put ∙ ap (λ (front : List ℕ). front ++ text) c.in_ok-out.ensures.items) c.put_plan-put.ensures)
