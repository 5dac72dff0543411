use Rattle.std.proofs.Common.{◌≡◌, ℕ, List, [], ◌∷◌, ◌++◌, append_assoc, codes, decimal, ap, ◌∙◌}
use Rattle.std.proofs.lemmas.Result.{IfOk-equal}
use Rattle.relay_wire.specs.Findings.{spaced, after_spaces}
use Rattle.relay_wire.specs.PlanText.{line}
use Rattle.relay_envelopes.proofs.writing.put_bad_envelope.Goals as goal

line_joined : (number : List ℕ) → codes "refused line" ++ after_spaces (number ∷ codes "bad envelope\n" ∷ []) ≡ line (spaced (codes "refused" ∷ codes "line" ∷ number ∷ codes "bad" ∷ codes "envelope" ∷ []))
line_joined number = simp append_assoc

line_is : (out number : List ℕ) → (out ++ codes "refused line") ++ after_spaces (number ∷ codes "bad envelope\n" ∷ []) ≡ out ++ line (spaced (codes "refused" ∷ codes "line" ∷ number ∷ codes "bad" ∷ codes "envelope" ∷ []))
line_is out number = append_assoc out (codes "refused line") _ ∙ ap (λ l. out ++ l) (line_joined number)

pub returns : goal.returns
returns c =
    IfOk-equal c.put_count.result c.put_count.new.out.items (c.extend_from_slice.new.self.items ++ after_spaces (decimal c.args.number ∷ codes "bad envelope\n" ∷ [])) _ c.put_count.ensures
    (rw c.in_ok-extend_from_slice.ensures.items (line_is c.args.out.now.items (decimal c.args.number)))
