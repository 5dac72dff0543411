-- Lines and answers, one after another.
use Rattle.std.proofs.Common.{◌≡◌, ℕ, ◌+◌, ◌<◌, List, ◌++◌, length, take, map, get_or, codes, ◌∷◌, [], sym, ap, ◌∙◌, append_assoc}
use Rattle.std.proofs.lemmas.List.{append-nil}
use Rattle.relay_wire.specs.Findings.{after_spaces}
use Rattle.relay_wire.specs.PlanText.{line, lines_of}
use Rattle.relay_wire.proofs.Pieces.{lines_more}

-- a line that is written in two pieces
pub line_is : (out first second : List ℕ) → ((out ++ first) ++ second) ++ 10 ∷ [] ≡ out ++ line (first ++ second)
line_is out first second = simp append_assoc

pub lines_step : {X : Type 0} (text : X → List ℕ) (out written new : List ℕ) (xs : List X) (i : ℕ) (d : X) → i < length xs → d ≡ get_or xs i d → written ≡ out ++ lines_of (map text (take i xs)) → new ≡ written ++ line (text d) → new ≡ out ++ lines_of (map text (take (i + 1) xs))
lines_step {X} text out written new xs i d h at before after =
    after
    ∙ ap (λ (l : List ℕ). l ++ line (text d)) before
    ∙ append_assoc out (lines_of (map text (take i xs))) (line (text d))
    ∙ ap (λ (l : List ℕ). out ++ l) (ap (λ (x : X). lines_of (map text (take i xs)) ++ line (text x)) at ∙ sym (lines_more text xs i d h))

-- a step from one alias to another that is written in ten pieces
in_order : (out a b c d e f g h k z : List ℕ) → (((((((((out ++ a) ++ b) ++ c) ++ d) ++ e) ++ f) ++ g) ++ h) ++ k) ++ z ≡ out ++ (a ++ (b ++ (c ++ (d ++ (e ++ (f ++ (g ++ (h ++ (k ++ z)))))))))
in_order out a b c d e f g h k z = simp append_assoc

in_words : (s w f l n m i t x v g z : List ℕ) → (s ++ (((w ++ (f ++ [])) ++ (l ++ (n ++ (m ++ (i ++ (t ++ [])))))) ++ (x ++ (v ++ (g ++ []))))) ++ z ≡ s ++ (w ++ (f ++ (l ++ (n ++ (m ++ (i ++ (t ++ (x ++ (v ++ (g ++ z))))))))))
in_words s w f l n m i t x v g z = simp (append_assoc, append-nil)

pub alias_line_is : (out from number item text to : List ℕ)
    → (((((((((out ++ codes "step alias") ++ 32 ∷ from) ++ codes " line") ++ 32 ∷ number) ++ codes " item") ++ 32 ∷ item) ++ 32 ∷ text) ++ codes " is alias") ++ 32 ∷ to) ++ 10 ∷ []
    ≡ out ++ line (codes "step" ++ (after_spaces (codes "alias" ∷ from ∷ []) ++ after_spaces (codes "line" ∷ number ∷ codes "item" ∷ item ∷ text ∷ [])) ++ after_spaces (codes "is" ∷ codes "alias" ∷ to ∷ []))
alias_line_is out from number item text to =
    in_order out (codes "step alias") (32 ∷ from) (codes " line") (32 ∷ number) (codes " item") (32 ∷ item) (32 ∷ text) (codes " is alias") (32 ∷ to) (10 ∷ [])
    ∙ sym (ap (λ (l : List ℕ). out ++ l) (in_words (codes "step") (32 ∷ codes "alias") (32 ∷ from) (32 ∷ codes "line") (32 ∷ number) (32 ∷ codes "item") (32 ∷ item) (32 ∷ text) (32 ∷ codes "is") (32 ∷ codes "alias") (32 ∷ to) (10 ∷ [])))
