-- What is written of a plan, from its transactions and its lines.
use Rattle.std.proofs.Common.{◌≡◌, ◌⊎◌, ℕ, List, refl}
use Rattle.std.specs.Prelude.{IsTrue, ◌↔◌}
use Rattle.relay_text.specs.Bytes.{has_text}
use Rattle.relay_wire.specs.declared.plan.Planned.{Planned}
use Rattle.relay_wire.specs.PlanTexts.{plan_from}
use Rattle.relay_job.specs.declared.job.Job.{Job}
use Rattle.relay_planning.specs.declared.options.Form.TheVariants as forms
use Rattle.relay_planning.specs.declared.written.WrittenPlan.{WrittenPlan}
use Rattle.relay_planning.specs.Plans.{AreTransactionsOf, IsFewest, IsSoundFor}
use Rattle.relay_planning.specs.Report.{IsOwnFindingLine}
use Rattle.relay_planning.specs.Texts.{has_fault_line}
use Rattle.relay_planning.specs.Written.{AreWritten, IsWrittenFor}
use Rattle.relay_planning.proofs.PlanFacts.{plan_is, plan_over, whole_plan}

-- with the lines of files and tables that are at fault, and those of what is reached, it is written of the job's plan
pub written_for : (job : Job) (ts : List Planned) (given lines : List (List ℕ)) (written : WrittenPlan)
    → AreTransactionsOf job ts
    → IsSoundFor job ts
    → IsFewest job ts
    → ((q : List ℕ) → IsTrue (has_text lines q) ↔ (IsTrue (has_text given q) ⊎ IsOwnFindingLine job q))
    → ((q : List ℕ) → has_text given q ≡ has_fault_line job q)
    → AreWritten ts lines written
    → IsWrittenFor job forms.Plan written
written_for job ts given lines written transactions sound fewest same faults is =
    let plan = plan_from job.settings.hostname ts is.0 in
    let reached = plan_over job plan (λ q. IsTrue (has_text lines q)) (λ q. IsTrue (has_text given q) ⊎ IsOwnFindingLine job q) same (plan_is job plan lines refl transactions is.2 is.1) in
    (plan, whole_plan job plan given reached faults, sound, fewest, is.3 job.settings.hostname)
