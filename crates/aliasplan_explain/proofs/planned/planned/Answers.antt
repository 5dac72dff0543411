use Rattle.std.proofs.Common.{List, ℕ, sym, ap, subst, ◌∙◌}
use Rattle.std.proofs.lemmas.Result.{IfOk-weaker}
use Rattle.relay_job.specs.declared.job.Job.{Job}
use Rattle.relay_text.specs.Bytes.{has_text}
use Rattle.relay_planning.specs.Plans.{IsPlanOf}
use Rattle.relay_planning.specs.Texts.{has_fault_line}
use Rattle.relay_planning.proofs.PlanFacts.{whole_plan}
use Rattle.aliasplan_explain.proofs.planned.planned.Goals as goal

pub returns-clause-plan : goal.returns-clause-plan
returns-clause-plan g c =
    IfOk-weaker c.plan_reached.result _ _
    (λ plan is. subst (λ (j : Job). IsPlanOf j plan) c.requires.view (whole_plan c.args.view.now plan c.replace-lines.result is (λ q. ap (λ (ls : List (List ℕ)). has_text ls q) c.replace-lines.ensures.value ∙ c.requires.lines q ∙ ap (λ (j : Job). has_fault_line j q) (sym c.requires.view))))
    c.plan_reached.ensures.plan

pub returns-clause-sound : goal.returns-clause-sound
returns-clause-sound g c = rw c.requires.view at c.plan_reached.ensures.sound
