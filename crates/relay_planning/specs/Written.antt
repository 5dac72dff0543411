-- What a plan is written as, and its numbers.
use Rattle.std.specs.Prelude.{◌≡◌, ℕ, List, length}
use Rattle.std.specs.List.{concat}
use Rattle.relay_text.specs.Bytes.{has_text}
use Rattle.relay_text.specs.TextSets.{text_cmp, IsAscendingBy}
use Rattle.relay_wire.specs.declared.plan.Plan.{Plan}
use Rattle.relay_wire.specs.declared.plan.Planned.{Planned}
use Rattle.relay_wire.specs.JsonPlan.{json_text_of}
use Rattle.relay_wire.specs.PlanText.{plan_text_of, wire_text_of, recipient_count}
use Rattle.relay_wire.specs.PlanTexts.{plan_from}
use Rattle.relay_job.specs.declared.job.Job.{Job}
use Rattle.relay_planning.specs.Plans.{IsFewest, IsPlanOf, IsSoundFor}
use Rattle.relay_planning.specs.declared.options.Form.{Form}
use Rattle.relay_planning.specs.declared.options.Form.TheVariants as forms
use Rattle.relay_planning.specs.declared.summary.Summary.{Summary}
use Rattle.relay_planning.specs.declared.written.WrittenPlan.{WrittenPlan}

abbrev pub summary_of : Plan → Summary
summary_of p = record { transactions = length p.transactions; recipients = recipient_count p; findings = length p.findings }

abbrev pub text_in : Form → Plan → List ℕ
text_in forms.Plan p = plan_text_of p
text_in forms.Wire p = wire_text_of p
text_in forms.Json p = json_text_of p

-- whether a text in parts, and numbers, are those of a plan
abbrev pub IsWrittenAs : Form → Plan → WrittenPlan → Type 0
IsWrittenAs form plan written = (concat written.texts.items ≡ text_in form plan) × (written.summary ≡ summary_of plan)

-- the same of a job's plan
abbrev pub IsWrittenFor : Job → Form → WrittenPlan → Type 0
IsWrittenFor job form written = (plan : Plan) × IsPlanOf job plan × IsSoundFor job plan.transactions × IsFewest job plan.transactions × IsWrittenAs form plan written

-- the same of a plan of these transactions, whose findings are some lines in the order of their bytes, each once, with any host name
abbrev pub AreWritten : List Planned → List (List ℕ) → WrittenPlan → Type 0
AreWritten transactions lines written =
    (findings : List (List ℕ))
    × IsAscendingBy text_cmp findings
    × ((q : List ℕ) → has_text findings q ≡ has_text lines q)
    × ((hostname : List ℕ) → IsWrittenAs forms.Plan (plan_from hostname transactions findings) written)
