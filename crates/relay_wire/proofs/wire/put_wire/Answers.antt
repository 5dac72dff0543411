use Rattle.std.proofs.Common.{codes, ◌∙◌}
use Rattle.std.specs.List.{enumerate_from}
use Rattle.std.proofs.lemmas.Result.{on_ok_weaker}
use Rattle.relay_wire.specs.PlanText.{line, lines_of, first_line, numbered_texts, scripted_text}
use Rattle.relay_wire.proofs.Pieces.{two_behind}
use Rattle.relay_wire.proofs.wire.put_wire.Goals as goal

pub returns : goal.returns
returns c =
    on_ok_weaker c.put_last_lines.result
    (λ put. put ∙ rw (c.in_ok-put_scripted_transactions.ensures, c.in_ok-put_first_line.ensures, c.as_slice.ensures, c.as_bytes.ensures)
    (two_behind c.args.out.now.items (line (first_line c.args.plan.now)) (numbered_texts (scripted_text c.args.plan.now.hostname) (enumerate_from 1 c.args.plan.now.transactions)) (lines_of c.args.plan.now.findings) (line (codes "end"))))
    c.put_last_lines.ensures
