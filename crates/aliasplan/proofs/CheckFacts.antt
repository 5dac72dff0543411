-- Lines of findings, as a check gives them.
use Rattle.std.proofs.Common.{◌≡◌, ℕ, List, sym, ◌∙◌}
use Rattle.relay_text.specs.Bytes.{has_text}
use Rattle.relay_text.specs.TextSets.{IsAscendingBy, text_cmp}
use Rattle.relay_job.specs.declared.job.Job.{Job}
use Rattle.aliasplan.specs.Checks.{AreLines}
use Rattle.relay_wire.specs.declared.plan.Plan.{Plan}
use Rattle.relay_planning.specs.Plans.{IsPlanOf}
use Rattle.relay_planning.specs.Report.{texts, IsFindingLine, IsLineOf}
use Rattle.relay_planning.specs.Texts.{has_fault_line}
use Rattle.relay_planning.proofs.SetFacts.{Contains-has_text, has_text-Contains}
use Rattle.relay_planning.proofs.TextFacts.{text_lines}

pub texts_are : (tables : Job) (lines given : List (List ℕ)) → ((q : List ℕ) → has_text lines q ≡ has_text given q) → IsAscendingBy text_cmp lines → ((q : List ℕ) → has_text given q ≡ has_fault_line tables q)
    → AreLines (IsLineOf tables texts) lines
texts_are tables lines given same ascending reported = record {
  ascending = ascending;
  members = λ q. (
    λ c. (text_lines tables q).0 (sym (same q ∙ reported q) ∙ has_text-Contains lines q c),
    λ line. Contains-has_text lines q (same q ∙ reported q ∙ (text_lines tables q).1 line),
  );
}

pub findings_are : (job : Job) (plan : Plan) → IsPlanOf job plan → AreLines (IsFindingLine job) plan.findings
findings_are job plan is = record { ascending = is.findings_ascending; members = is.findings }
