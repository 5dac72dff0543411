use Rattle.std.proofs.Common.{◌≡◌, length}
use Rattle.std.specs.Io.KnownBytes.{Keeps}
use Rattle.aliasplan.proofs.device.read_again.Given as goal

-- interrupted reads gave nothing
abbrev pub invariant-loop : goal.invariant-loop
invariant-loop g l = record {
  room : length l.buf ≡ length l.initial.buf;
  kept : Keeps (g.R.Read.remaining l.initial.reader) (g.R.Read.remaining l.reader);
}
