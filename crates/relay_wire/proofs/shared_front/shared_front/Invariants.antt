use Rattle.std.proofs.Common.{◌≡◌, drop}
use Rattle.relay_wire.specs.FindingLines.{AreLines, lines_cut}
use Rattle.relay_wire.specs.SharedFronts.{shared_front}
use Rattle.relay_wire.proofs.shared_front.shared_front.Given as goal

abbrev pub invariant-loop-length : goal.invariant-loop-length
invariant-loop-length l = record {
  front : shared_front l.front (lines_cut (drop l.length-index l.lengths) l.rest) ≡ shared_front l.bytes (lines_cut l.lengths l.bytes);
  whole : AreLines (drop l.length-index l.lengths) l.rest;
}
