use Rattle.std.proofs.Common.{arith}
use Rattle.relay_explain.specs.ExplanationText.{record_line}
use Rattle.relay_explain.proofs.Pieces.{lines_step}
use Rattle.relay_explain.proofs.decision.put_records.Goals as goal

pub loop-record-preserved : goal.loop-record-preserved
loop-record-preserved c =
    lines_step record_line c.args.out.now.items c.loop-record.out.items c.put_line.new.out.items c.args.records.now c.loop-record.record-index c.record-item.result (omega arith) c.record-item.is c.loop-record.invariant c.in_ok-put_line.ensures
