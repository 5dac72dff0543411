use Rattle.std.proofs.Common.{◌≡◌, ◌≤◌, take}
use Rattle.relay_aliasfile.specs.ItemCounts.{separators_of}
use Rattle.relay_aliasfile.proofs.item_counts.separators_in.Given as goal

abbrev pub invariant-loop-byte : goal.invariant-loop-byte
invariant-loop-byte l = record {
  separators : l.separators ≡ separators_of (take l.byte-index l.block);
  few : l.separators ≤ l.byte-index;
}
