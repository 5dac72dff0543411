-- The text of a plan in parts, made of its transactions and of the lines that were gathered.
use Rattle.std.specs.Prelude.{◌≡◌, ℕ, List, length, map, sum_by}
use Rattle.std.specs.Borrow.{Bor}
use Rattle.std.specs.List.{concat}
use Rattle.relay_text.specs.Bytes.{has_text}
use Rattle.relay_text.specs.TextSets.{IsAscendingBy, text_cmp}
use Rattle.relay_wire.specs.PlanText.{plan_text_of}
use Rattle.relay_wire.specs.declared.plan.Plan.{Plan}
use Rattle.relay_wire.specs.declared.plan.Planned.{Planned}
use Rattle.relay_wire.specs.declared.plan_texts.PlanTexts.{PlanTexts}

-- the bytes of lines that are lent
abbrev pub bare : List (Bor (List ℕ)) → List (List ℕ)
bare lines = map (λ line. line.now) lines

-- the plan of these transactions and findings
abbrev pub plan_from : List ℕ → List Planned → List (List ℕ) → Plan
plan_from hostname transactions findings = record { hostname = hostname; transactions = transactions; findings = findings }

-- Whether texts are, one behind the other, that of the plan of these transactions, whose findings are some lines in the order of their bytes,
-- each once. No host name stands there.
abbrev pub AreTextsOf : List Planned → List (List ℕ) → PlanTexts → Type 0
AreTextsOf transactions lines it =
    (findings : List (List ℕ))
    × IsAscendingBy text_cmp findings
    × ((q : List ℕ) → has_text findings q ≡ has_text lines q)
    × (it.recipients ≡ sum_by (λ t. length t.to) transactions)
    × (it.findings ≡ length findings)
    × ((hostname : List ℕ) → concat it.texts.items ≡ plan_text_of (plan_from hostname transactions findings))
