use Rattle.std.proofs.Common.{decimal, ◌∙◌}
use Rattle.std.proofs.lemmas.Result.{on_ok_weaker}
use Rattle.relay_wire.proofs.Pieces.{check_counts_are}
use Rattle.relay_wire.proofs.check.put_check_line.Goals as goal

pub returns : goal.returns
returns c =
    on_ok_weaker c.end_line.result
    (λ put. put ∙ rw (c.in_ok-put_count-2.ensures, c.in_ok-put_count.ensures, c.in_ok-extend_from_slice.ensures.items) (check_counts_are c.args.out.now.items (decimal c.args.findings) (decimal c.args.notes)))
    c.end_line.ensures
