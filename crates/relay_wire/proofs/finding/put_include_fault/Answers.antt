use Rattle.std.proofs.Common.{List, ℕ, [], ◌∷◌, ◌++◌, codes, decimal, append_assoc, ap, ◌∙◌}
use Rattle.std.proofs.lemmas.Result.{on_ok_weaker}
use Rattle.relay_wire.specs.Findings.{spaced, line_word}
use Rattle.relay_wire.proofs.finding.put_include_fault.Goals as goal

pub returns-clause-ok : goal.returns-clause-ok
returns-clause-ok c =
    let out = c.args.out.now.items in
    let fault : List ℕ = codes " line " ++ spaced (decimal c.args.number ∷ line_word c.args.word ∷ []) in
    on_ok_weaker c.put_fault.result
    (λ put. put ∙ ap (λ (front : List ℕ). front ++ fault) c.in_ok-put_text.ensures.ok ∙ append_assoc out (codes "finding include " ++ c.args.path.now) fault ∙ ap (λ (rest : List ℕ). out ++ rest) (append_assoc (codes "finding include ") c.args.path.now fault))
    c.put_fault.ensures.ok
