use Rattle.std.proofs.Common.{List, ℕ, ◌++◌, ap, ◌∙◌}
use Rattle.std.proofs.lemmas.Result.{on_ok_weaker}
use Rattle.relay_wire.specs.CheckText.{check_text_of}
use Rattle.relay_wire.proofs.check.check_text.Goals as goal

pub returns : goal.returns
returns c =
    let text : List ℕ = check_text_of c.args.findings.now c.args.notes.now in
    c.text_put.ensures text (on_ok_weaker c.put_check-put.result (λ put. put ∙ ap (λ (front : List ℕ). front ++ text) c.new-out.ensures.items) c.put_check-put.ensures)
