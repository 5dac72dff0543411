-- Explanations whose steps are told by their lines.
use Rattle.std.specs.Prelude.{◌≡◌, ℕ, List, [], ◌∷◌, ◌++◌, map, flat_map, Option}
use Rattle.relay_wire.specs.PlanText.{line, lines_of}
use Rattle.relay_explain.specs.Explanations.{Answer}
use Rattle.relay_explain.specs.Explanations.{Explanation}
use Rattle.relay_explain.specs.declared.told.Told.{Told}
use Rattle.relay_explain.specs.declared.telling.Telling.{Telling}
use Rattle.relay_explain.specs.declared.decision.Decision.{Decision}
use Rattle.relay_explain.specs.declared.target.Target.{Target}
use Rattle.relay_explain.specs.ExplanationText.{step_line, answer_line, from_line, decision_lines, outcome_lines}
use Rattle.relay_explain.specs.PiecedTexts.{text_of}

-- the same answer, with the lines of its steps
pub record IsTold (a : Answer) (t : Told) : Type 0 where
  pub lines : text_of t.lines ≡ lines_of (map step_line a.steps)
  pub from : t.from ≡ a.from
  pub given_by : t.given_by ≡ a.given_by
  pub outcome : t.outcome ≡ a.outcome

-- the same answers, in the same order
abbrev pub AreTold : List Answer → List Told → Type 0
AreTold [] [] = Unit {0}
AreTold [] (t ∷ told) = ⊥
AreTold (a ∷ answers) [] = ⊥
AreTold (a ∷ answers) (t ∷ told) = IsTold a t × AreTold answers told

-- the same explanation
pub record IsToldBy (e : Explanation) (t : Telling) : Type 0 where
  pub asked : t.asked ≡ e.asked
  pub target : t.target ≡ e.target
  pub decision : t.decision ≡ e.decision
  pub answers : AreTold e.answers t.answers
  pub stands_for : t.stands_for ≡ e.stands_for
  pub unreached : t.unreached ≡ e.unreached

-- an answer under its number
abbrev pub told_text : Target → Option Decision → ℕ → Told → List ℕ
told_text target decision number t = line (answer_line number target) ++ text_of t.lines ++ line (from_line t.from t.given_by) ++ decision_lines decision ++ outcome_lines t.outcome

abbrev pub told_texts : Target → Option Decision → List (ℕ × Told) → List ℕ
told_texts target decision answers = flat_map (λ a. told_text target decision a.0 a.1) answers
