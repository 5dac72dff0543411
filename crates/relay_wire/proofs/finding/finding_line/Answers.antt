use Rattle.std.proofs.Common.{List, ℕ, ◌++◌, ap, ◌∙◌}
use Rattle.std.proofs.lemmas.Result.{on_ok_weaker}
use Rattle.relay_wire.specs.Findings.{finding_text_of}
use Rattle.relay_wire.proofs.finding.finding_line.Goals as goal

pub returns : goal.returns
returns c =
    let text : List ℕ = finding_text_of c.args.finding.now in
    c.text_put.ensures text (on_ok_weaker c.put_finding_line-put.result (λ put. put ∙ ap (λ (front : List ℕ). front ++ text) c.in_ok-line.ensures.items) c.put_finding_line-put.ensures.ok)
