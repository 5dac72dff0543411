use Rattle.std.proofs.Common.{decimal, ◌∙◌}
use Rattle.std.proofs.lemmas.Result.{on_ok_weaker}
use Rattle.relay_wire.proofs.Pieces.{counts_are}
use Rattle.relay_wire.proofs.plan.put_counts.Goals as goal

pub returns : goal.returns
returns c =
    on_ok_weaker c.end_line.result
    (λ put. put ∙ rw (c.in_ok-put_count-3.ensures, c.in_ok-put_count-2.ensures, c.in_ok-put_count.ensures, c.in_ok-extend_from_slice.ensures.items) (counts_are c.args.out.now.items (decimal c.args.transactions) (decimal c.args.recipients) (decimal c.args.findings)))
    c.end_line.ensures
