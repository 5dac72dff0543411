use Rattle.std.proofs.Common.{◌≡◌, ◌∙◌, ◌++◌, ◌∷◌, [], ℕ, List, length, ap, append-nil, codes}
use Rattle.std.specs.List.{concat, enumerate_from}
use Rattle.std.proofs.lemmas.List.Folds.{concat-append}
use Rattle.relay_wire.specs.PlanText.{counts_line, line, lines_of, numbered_texts, transaction_text}
use Rattle.relay_wire.specs.PlanTexts.{bare}
use Rattle.relay_wire.proofs.Pieces.{first_line_from}
use Rattle.relay_wire.proofs.plan_texts.shared_texts.Goals as goal

pub returns : goal.returns
returns g c =
    let ts = c.args.transactions.now in
    let fs = c.args.findings.now in
    let counts : List ℕ = line (counts_line (length ts) c.args.recipients (length fs)) in
    let transactions : List ℕ = numbered_texts transaction_text (enumerate_from 1 ts) in
    let findings : List ℕ = lines_of (bare fs) in
    let end = c.in_ok-copy_of.field-0 in
    let one : concat c.in_ok-texts.texts.items ≡ counts = c.in_ok-texts.ensures counts c.counts_text-counts.ensures in
    let two : concat c.add.new.texts.items ≡ concat c.in_ok-texts.texts.items ++ transactions = c.in_ok-add.ensures transactions c.transactions_by.ensures in
    let three : concat c.add-2.new.texts.items ≡ concat c.add.new.texts.items ++ findings = c.in_ok-add-2.ensures findings c.lines_by.ensures in
    let last : c.in_ok-copy_of.field-0 ≡ line (codes "end") = c.in_ok-copy_of.ensures in
    λ hostname.
    ap concat c.in_ok-push.ensures.items
    ∙ concat-append c.add-2.new.texts.items (end ∷ [])
    ∙ ap (λ (l : List ℕ). l ++ concat (end ∷ [])) (three ∙ ap (λ (l : List ℕ). l ++ findings) (two ∙ ap (λ (l : List ℕ). l ++ transactions) one))
    ∙ ap (λ (l : List ℕ). ((counts ++ transactions) ++ findings) ++ l) (append-nil end ∙ last)
    ∙ ap (λ (l : List ℕ). ((l ++ transactions) ++ findings) ++ line (codes "end")) (first_line_from hostname ts fs c.args.recipients c.requires)
