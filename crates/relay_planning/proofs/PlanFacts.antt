-- A plan of a job, from its transactions and its lines.
use Rattle.std.proofs.Common.{◌≡◌, ◌⊎◌, ℕ, List, [], refl, sym, ◌∙◌, inl, inr}
use Rattle.std.specs.Prelude.{IsTrue, ◌↔◌}
use Rattle.relay_text.specs.Bytes.{has_text}
use Rattle.relay_text.specs.TextSets.{IsAscendingBy, text_cmp}
use Rattle.relay_wire.specs.declared.finding.Finding.{Finding}
use Rattle.relay_wire.specs.Findings.{finding_text_of}
use Rattle.relay_wire.specs.declared.plan.Plan.{Plan}
use Rattle.relay_job.specs.declared.job.Job.{Job}
use Rattle.relay_planning.specs.Report.{Part, texts, entries, routes, part_of, IsFinding, IsFindingLine, IsLineOf, IsOwnFindingLine}
use Rattle.relay_planning.specs.Plans.{AreTransactionsOf, IsOwnPlanOf, IsPlanOf, IsPlanWith}
use Rattle.relay_planning.specs.Texts.{has_fault_line}
use Rattle.relay_planning.proofs.SetFacts.{Contains-has_text, has_text-Contains}
use Rattle.relay_planning.proofs.TextFacts.{text_lines}

pub plan_is : (job : Job) (plan : Plan) (lines : List (List ℕ)) → plan.hostname ≡ job.settings.hostname → AreTransactionsOf job plan.transactions → ((q : List ℕ) → has_text plan.findings q ≡ has_text lines q) → IsAscendingBy text_cmp plan.findings → IsPlanWith job (λ q. IsTrue (has_text lines q)) plan
plan_is job plan lines hostname transactions same ascending =
    record {
      hostname = hostname;
      transactions = transactions;
      findings_ascending = ascending;
      findings = λ q. (λ c. sym (same q) ∙ has_text-Contains plan.findings q c, λ line. Contains-has_text plan.findings q (same q ∙ line));
    }

-- the same plan, of lines that are told otherwise
pub plan_over : (job : Job) (plan : Plan) (P Q : List ℕ → Type 0) → ((q : List ℕ) → P q ↔ Q q) → IsPlanWith job P plan → IsPlanWith job Q plan
plan_over job plan P Q same is =
    record {
      hostname = is.hostname;
      transactions = is.transactions;
      findings_ascending = is.findings_ascending;
      findings = λ q. (λ c. (same q).0 ((is.findings q).0 c), λ line. (is.findings q).1 ((same q).1 line));
    }

module _ (job : Job) (q : List ℕ) where
  in_part : (finding : Finding) (part : Part) → part_of finding ≡ part → IsFinding job finding → q ≡ finding_text_of finding → (IsLineOf job texts q ⊎ IsLineOf job entries q) ⊎ IsLineOf job routes q
  in_part finding texts part is line = inl (inl (finding, part, is, line))
  in_part finding entries part is line = inl (inr (finding, part, is, line))
  in_part finding routes part is line = inr (finding, part, is, line)

  of_part : (part : Part) → IsLineOf job part q → IsFindingLine job q
  of_part part h = (h.0, h.2, h.3)

  -- the lines of what is reached, one part after another
  pub own_lines : (first second : List (List ℕ))
      → (IsTrue (has_text second q) ↔ (IsTrue (has_text first q) ⊎ IsLineOf job entries q))
      → (IsTrue (has_text second q) ⊎ IsLineOf job routes q) ↔ (IsTrue (has_text first q) ⊎ IsOwnFindingLine job q)
  own_lines first second more = (
    λ either. elim either [
      | inl old ↦ elim (more.0 old) [ inl given ↦ inl given | inr entry ↦ inr (inl entry) ]
      | inr route ↦ inr (inr route)
    ],
    λ either. elim either [
      | inl given ↦ inl (more.1 (inl given))
      | inr own ↦ elim own [ inl entry ↦ inl (more.1 (inr entry)) | inr route ↦ inr route ]
    ],
  )

  -- the lines of files and tables that are at fault, and those of what is reached
  finding_lines : (given : List (List ℕ)) → has_text given q ≡ has_fault_line job q → (IsTrue (has_text given q) ⊎ IsOwnFindingLine job q) ↔ IsFindingLine job q
  finding_lines given is = (
    λ either. elim either [
      | inl fault ↦ of_part texts ((text_lines job q).0 (sym is ∙ fault))
      | inr own ↦ elim own [ inl entry ↦ of_part entries entry | inr route ↦ of_part routes route ]
    ],
    λ found. elim (in_part found.0 (part_of found.0) refl found.1 found.2) [
      | inl early ↦ elim early [ inl text ↦ inl (is ∙ (text_lines job q).1 text) | inr entry ↦ inr (inl entry) ]
      | inr route ↦ inr (inr route)
    ],
  )

module _ (job : Job) (plan : Plan) (given : List (List ℕ)) (is : IsPlanWith job (λ q. IsTrue (has_text given q) ⊎ IsOwnFindingLine job q) plan) where
  -- with the lines of files and tables that are at fault it is the plan
  pub whole_plan : ((q : List ℕ) → has_text given q ≡ has_fault_line job q) → IsPlanOf job plan
  whole_plan faults =
      let whole = plan_over job plan (λ q. IsTrue (has_text given q) ⊎ IsOwnFindingLine job q) (IsFindingLine job) (λ q. finding_lines job q given (faults q)) is in
      record { hostname = whole.hostname; transactions = whole.transactions; findings_ascending = whole.findings_ascending; findings = whole.findings }

  -- with no lines it is the plan with its own
  pub own_plan : given ≡ [] → IsOwnPlanOf job plan
  own_plan none = plan_over job plan (λ q. IsTrue (has_text given q) ⊎ IsOwnFindingLine job q) (IsOwnFindingLine job) no_more is
    where
      no_more : (q : List ℕ) → (IsTrue (has_text given q) ⊎ IsOwnFindingLine job q) ↔ IsOwnFindingLine job q
      no_more q = (
        λ either. elim either [ inl line ↦ absurd (let no : ⊥ = cc (rw none at line) in no) | inr own ↦ own ],
        λ own. inr own,
      )
