use Rattle.std.proofs.Common.{◌≡◌, false, take}
use Rattle.std.specs.Io.KnownBytes.{Appends}
use Rattle.relay_explain.specs.PiecedTexts.{text_of}
use Rattle.aliasplan_explain.proofs.running.write_pieces.Given as goal

abbrev pub invariant-loop-piece : goal.invariant-loop-piece
invariant-loop-piece g l = record {
  front : Appends (g.S.Sink.contents l.fn.writer) (g.S.Sink.contents l.writer) (text_of (take l.piece-index l.pieces));
  works : g.S.Sink.has_failed l.writer ≡ false;
}
