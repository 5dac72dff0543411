use Rattle.std.proofs.Common.{◌≡◌, false, take}
use Rattle.std.specs.List.{concat}
use Rattle.std.specs.Io.KnownBytes.{Appends}
use Rattle.aliasplan.proofs.writing.write_texts.Given as goal

-- the texts that are written, by a writer that works
abbrev pub invariant-loop-text : goal.invariant-loop-text
invariant-loop-text g l = record {
  written : Appends (g.S.Sink.contents l.fn.writer) (g.S.Sink.contents l.writer) (concat (take l.text-index l.texts));
  works : g.S.Sink.has_failed l.writer ≡ false;
}
