use Rattle.std.proofs.Common.{codes}
use Rattle.relay_explain.specs.ExplanationText.{record_text}
use Rattle.relay_explain.proofs.Pieces.{line_is}
use Rattle.relay_explain.proofs.record.Record.put_line.Goals as goal

pub returns : goal.returns
returns c =
    rw (c.in_ok-push.ensures.items, c.in_ok-put.ensures, c.in_ok-extend_from_slice.ensures.items)
    (line_is c.args.out.now.items (codes "record mx line") (record_text c.args.self.now))
