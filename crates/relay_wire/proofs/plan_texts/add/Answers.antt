use Rattle.std.proofs.Common.{◌≡◌, ◌∙◌, ◌++◌, ℕ, List, Vec, Global, ap}
use Rattle.std.specs.List.{concat}
use Rattle.std.proofs.lemmas.List.Folds.{concat-append}
use Rattle.std.proofs.lemmas.Result.{IfOk-at_ok}
use Rattle.relay_wire.proofs.plan_texts.add.Goals as goal

pub returns : goal.returns
returns c = λ bytes h.
    let texts = c.args.texts.now.items in
    let more = c.in_ok-more.more.items in
    let is : concat c.in_ok-more.more.items ≡ bytes = IfOk-at_ok (λ (v : Vec (List ℕ) Global). concat v.items ≡ bytes) c.in_ok-more.was h in
    ap concat c.in_ok-append.ensures.items ∙ concat-append texts more ∙ ap (λ (l : List ℕ). concat texts ++ l) is
