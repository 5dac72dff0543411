use Rattle.std.proofs.Common.{arith}
use Rattle.std.proofs.lemmas.Grind.{common_steps}
use Rattle.aliasplan.proofs.Bytes.{front_grows, front_within}
use Rattle.aliasplan.proofs.writing.write_text.Goals as goal

pub loop-written-preserved : goal.loop-written-preserved
loop-written-preserved g c =
    let contents = g.S.Sink.contents in
    record {
      front = front_grows (contents c.args.writer.now) (contents c.loop-written.writer) (contents c.write.new.self) c.args.text.now c.loop-written.written c.in_ok-count.count c.loop-written.invariant.front c.in_ok-count.ensures.bytes;
      works = grind (arith, common_steps, c.in_ok-count.ensures.failed);
      within = front_within c.args.text.now c.loop-written.written c.in_ok-count.count c.loop-written.invariant.within c.in_ok-count.ensures.count;
    }
