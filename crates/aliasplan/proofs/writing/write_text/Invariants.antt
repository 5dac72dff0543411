use Rattle.std.proofs.Common.{◌≡◌, ◌≤◌, ◌-◌, false, length, take}
use Rattle.std.specs.Io.KnownBytes.{Appends}
use Rattle.aliasplan.proofs.writing.write_text.Given as goal

-- the front that is written, by a writer that works
abbrev pub invariant-loop-written : goal.invariant-loop-written
invariant-loop-written g l = record {
  front : Appends (g.S.Sink.contents l.fn.writer) (g.S.Sink.contents l.writer) (take l.written l.text);
  works : g.S.Sink.has_failed l.writer ≡ false;
  within : l.written ≤ length l.text;
}

abbrev pub decreases-loop-written : goal.decreases-loop-written
decreases-loop-written g l = length l.text - l.written
