-- Lines that are made apart and put together.
use Rattle.std.proofs.Common.{◌≡◌, ◌⊎◌, ℕ, List, [], sym, ◌∙◌, inl, inr}
use Rattle.std.specs.Prelude.{IsTrue, ◌↔◌, Bool, ◌||◌}
use Rattle.std.proofs.lemmas.Bool.{or_cases, or_left, or_right}
use Rattle.relay_text.specs.Bytes.{has_text}
use Rattle.relay_job.specs.declared.job.Job.{Job}
use Rattle.relay_planning.specs.Report.{entries, routes, IsLineOf, IsOwnFindingLine}

-- what is a line of one part or the other, where each part was made from nothing
either_part : (P Q : Type 0) (old first second new : Bool) → new ≡ ((old || first) || second) → (IsTrue first → P) → (P → IsTrue first) → (IsTrue second → Q) → (Q → IsTrue second)
    → IsTrue new ↔ (IsTrue old ⊎ (P ⊎ Q))
either_part P Q old first second new is first_is is_first second_is is_second = (
  λ has. elim (or_cases (old || first) second (sym is ∙ has)) [
    | inl early ↦ elim (or_cases old first early) [ inl given ↦ inl given | inr one ↦ inr (inl (first_is one)) ]
    | inr other ↦ inr (inr (second_is other))
  ],
  λ either. is ∙ elim either [
    | inl given ↦ or_left (old || first) second (or_left old first given)
    | inr own ↦ elim own [
      | inl one ↦ or_left (old || first) second (or_right old first (is_first one))
      | inr other ↦ or_right (old || first) second (is_second other)
    ]
  ],
)

-- a line of a part that was made from nothing
from_nothing : (P : Type 0) (q : List ℕ) → (IsTrue (has_text [] q) ⊎ P) → P
from_nothing P q either = elim either [ inl none ↦ absurd (let bad : ⊥ = cc in bad) | inr is ↦ is ]

pub lines_apart : (job : Job) (q : List ℕ) (old first second new : List (List ℕ)) → has_text new q ≡ ((has_text old q || has_text first q) || has_text second q)
    → (IsTrue (has_text first q) ↔ (IsTrue (has_text [] q) ⊎ IsLineOf job entries q)) → (IsTrue (has_text second q) ↔ (IsTrue (has_text [] q) ⊎ IsLineOf job routes q))
    → IsTrue (has_text new q) ↔ (IsTrue (has_text old q) ⊎ IsOwnFindingLine job q)
lines_apart job q old first second new is of_entries of_routes =
    either_part (IsLineOf job entries q) (IsLineOf job routes q) (has_text old q) (has_text first q) (has_text second q) (has_text new q) is
    (λ has. from_nothing (IsLineOf job entries q) q (of_entries.0 has)) (λ line. of_entries.1 (inr line))
    (λ has. from_nothing (IsLineOf job routes q) q (of_routes.0 has)) (λ line. of_routes.1 (inr line))
