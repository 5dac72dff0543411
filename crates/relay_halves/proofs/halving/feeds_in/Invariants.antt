use Rattle.std.proofs.Common.{◌≡◌, ◌≤◌, take}
use Rattle.relay_halves.specs.Halves.{feeds_of}
use Rattle.relay_halves.proofs.halving.feeds_in.Given as goal

abbrev pub invariant-loop-byte : goal.invariant-loop-byte
invariant-loop-byte l = record {
  feeds : l.feeds ≡ feeds_of (take l.byte-index l.block);
  few : l.feeds ≤ l.byte-index;
}
