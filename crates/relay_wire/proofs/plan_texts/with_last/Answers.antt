use Rattle.std.proofs.Common.{◌≡◌, ◌∙◌, ◌++◌, ◌∷◌, [], ℕ, List, Vec, Global, ap, append-nil}
use Rattle.std.specs.List.{concat}
use Rattle.std.proofs.lemmas.List.Folds.{concat-append}
use Rattle.std.proofs.lemmas.Result.{IfOk-at_ok}
use Rattle.relay_wire.proofs.plan_texts.with_last.Goals as goal

pub returns : goal.returns
returns c = λ front back h k.
    let texts = c.in_ok-texts.texts.items in
    let last = c.in_ok-last.field-0 in
    let before : concat c.in_ok-texts.texts.items ≡ front = IfOk-at_ok (λ (v : Vec (List ℕ) Global). concat v.items ≡ front) c.in_ok-texts.was h in
    let behind : c.in_ok-last.field-0 ≡ back = IfOk-at_ok (λ (t : List ℕ). t ≡ back) c.in_ok-last.was k in
    ap concat c.in_ok-push.ensures.items
    ∙ concat-append texts (last ∷ [])
    ∙ ap (λ (l : List ℕ). l ++ concat (last ∷ [])) before
    ∙ ap (λ (l : List ℕ). front ++ l) (append-nil last ∙ behind)
