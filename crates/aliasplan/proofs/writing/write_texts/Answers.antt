use Rattle.aliasplan.proofs.WrittenTexts.{at_err, texts_more, front_more}
use Rattle.aliasplan.proofs.writing.write_texts.Goals as goal

pub returns-in_err-write_text-clause-front : goal.returns-in_err-write_text-clause-front
returns-in_err-write_text-clause-front g c =
    let contents = g.S.Sink.contents in
    at_err c.from_residual.result
    (front_more c.args.texts.now c.loop-text.text-index c.text-item.result c.loop-text-test.true c.text-item.is
    (contents c.args.writer.now) (contents c.loop-text.writer) (contents c.write_text.new.writer) c.loop-text.invariant.written (rw c.as_bytes.ensures at c.in_err-write_text.ensures.front))

pub loop-text-preserved : goal.loop-text-preserved
loop-text-preserved g c =
    let contents = g.S.Sink.contents in
    record {
      written = texts_more c.args.texts.now c.loop-text.text-index c.text-item.result c.loop-text-test.true c.text-item.is
          (contents c.args.writer.now) (contents c.loop-text.writer) (contents c.write_text.new.writer) c.loop-text.invariant.written (rw c.as_bytes.ensures at c.in_ok-write_text.ensures.ok);
      works = c.in_ok-write_text.ensures.works;
    }
