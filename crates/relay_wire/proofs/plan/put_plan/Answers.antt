use Rattle.std.proofs.Common.{codes, ◌∙◌}
use Rattle.std.specs.List.{enumerate_from}
use Rattle.std.proofs.lemmas.Result.{on_ok_weaker}
use Rattle.relay_wire.specs.PlanText.{line, lines_of, first_line, numbered_texts, transaction_text}
use Rattle.relay_wire.proofs.Pieces.{two_behind}
use Rattle.relay_wire.proofs.plan.put_plan.Goals as goal

pub returns : goal.returns
returns c =
    on_ok_weaker c.put_last_lines.result
    (λ put. put ∙ rw (c.in_ok-put_transactions.ensures, c.in_ok-put_first_line.ensures, c.as_slice.ensures)
    (two_behind c.args.out.now.items (line (first_line c.args.plan.now)) (numbered_texts transaction_text (enumerate_from 1 c.args.plan.now.transactions)) (lines_of c.args.plan.now.findings) (line (codes "end"))))
    c.put_last_lines.ensures
