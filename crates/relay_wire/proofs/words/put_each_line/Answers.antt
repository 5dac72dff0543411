use Rattle.std.proofs.Common.{arith}
use Rattle.relay_wire.proofs.Pieces.{lines_step}
use Rattle.relay_wire.proofs.words.put_each_line.Goals as goal

pub loop-text-preserved : goal.loop-text-preserved
loop-text-preserved c =
    lines_step c.args.out.now.items c.loop-text.out.items c.put_line.new.out.items c.args.lines.now c.loop-text.text-index c.text-item.result (omega arith) c.text-item.is c.loop-text.invariant (rw c.as_bytes.ensures at c.in_ok-put_line.ensures)
