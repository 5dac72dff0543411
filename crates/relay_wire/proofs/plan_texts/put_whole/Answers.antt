use Rattle.std.proofs.Common.{◌≡◌, ◌∙◌, ◌++◌, ℕ, List, length, ap, codes}
use Rattle.std.specs.List.{enumerate_from}
use Rattle.std.proofs.lemmas.Result.{on_ok_weaker}
use Rattle.relay_wire.specs.PlanText.{counts_line, line, lines_of, numbered_texts, transaction_text}
use Rattle.relay_wire.specs.PlanTexts.{bare}
use Rattle.relay_wire.proofs.Pieces.{first_line_from, four_pieces}
use Rattle.relay_wire.proofs.ScriptText.{on_written}
use Rattle.relay_wire.proofs.plan_texts.put_whole.Goals as goal

pub returns : goal.returns
returns c =
    let ts = c.args.transactions.now in
    let fs = c.args.findings.now in
    let out = c.args.out.now.items in
    let end = line (codes "end") in
    let counts : List ℕ = line (counts_line (length ts) c.args.recipients (length fs)) in
    let transactions : List ℕ = numbered_texts transaction_text (enumerate_from 1 ts) in
    let findings : List ℕ = lines_of (bare fs) in
    let before : c.put_bare_lines.new.out.items ≡ ((out ++ counts) ++ transactions) ++ findings =
    c.in_ok-put_bare_lines.ensures ∙ ap (λ (l : List ℕ). l ++ findings) (c.in_ok-put_transactions.ensures ∙ ap (λ (l : List ℕ). l ++ transactions) c.in_ok-put_counts.ensures) in
    let written = on_written c.extend_from_slice.result c.extend_from_slice.new.self.items c.put_bare_lines.new.out.items end (out ++ (((counts ++ transactions) ++ findings) ++ end)) c.extend_from_slice.ensures.items
    (ap (λ (l : List ℕ). l ++ end) before ∙ four_pieces out counts transactions findings end) in
    on_ok_weaker c.extend_from_slice.result (λ put hostname. put ∙ ap (λ (l : List ℕ). out ++ (((l ++ transactions) ++ findings) ++ end)) (first_line_from hostname ts fs c.args.recipients c.requires)) written
