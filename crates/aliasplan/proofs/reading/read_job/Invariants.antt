use Rattle.std.proofs.Common.{◌≡◌, ◌≤◌, ◌<◌, false, vec_len}
use Rattle.std.specs.Io.KnownBytes.{Consumes}
use Rattle.aliasplan.proofs.reading.read_job.Given as goal

-- what was read so far, and at least a byte each time
abbrev pub invariant-loop : goal.invariant-loop
invariant-loop g l = record {
  told : Consumes (g.F.Feed.remaining l.fn.reader) (g.F.Feed.remaining l.reader) l.text.items;
  works : g.F.Feed.has_failed l.reader ≡ false;
  goes_on : g.F.Feed.has_ended l.reader ≡ false;
  grows : l.counter ≤ vec_len l.text;
  within : vec_len l.text ≤ l.max;
  room : 0 < vec_len l.chunk;
}
