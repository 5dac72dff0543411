use Rattle.std.proofs.Common.{◌≡◌, ◌++◌, ◌∷◌, List, ℕ, codes, ap, sym, ◌∙◌, append_assoc}
use Rattle.std.proofs.lemmas.Result.{IfOk-equal}
use Rattle.relay_explain.specs.declared.rule.Rule.{Rule}
use Rattle.relay_explain.specs.ExplanationText.{rule_text, table_text}
use Rattle.relay_explain.proofs.rule.Rule.put.Goals as goal

pub returns-in_ok-put_word-in-Line : goal.returns-in_ok-put_word-in-Line
returns-in_ok-put_word-in-Line c =
    let out = c.args.out.now.items in
    let written : List ℕ = table_text c.in-Line.number c.as_bytes.result.now c.as_bytes-in-Line.result.now in
    let same : written ≡ table_text c.in-Line.number c.in-Line.pattern c.in-Line.outcome = rw (c.as_bytes.ensures, c.as_bytes-in-Line.ensures) in
    IfOk-equal c.put_table_line.result c.put_table_line.new.out.items (c.put_word-in-Line.new.out.items ++ written) _ c.put_table_line.ensures
    (ap (λ (l : List ℕ). l ++ written) c.in_ok-put_word-in-Line.ensures
    ∙ append_assoc out (32 ∷ codes "transport line") written
    ∙ ap (λ (l : List ℕ). out ++ (32 ∷ (codes "transport line" ++ l))) same
    ∙ ap (λ (rule : Rule). out ++ rule_text rule) (sym c.in-Line.is))
