use Rattle.std.proofs.Common.{◌≡◌, ◌+◌, ◌≤◌, length}
use Rattle.relay_aliasfile.specs.ItemCounts.{separators_of}
use Rattle.relay_aliasfile.proofs.item_counts.separator_count.Given as goal

abbrev pub invariant-loop-rest : goal.invariant-loop-rest
invariant-loop-rest l = record {
  separators : l.count + separators_of l.rest ≡ separators_of l.text;
  most : l.count + length l.rest ≤ length l.text;
}

abbrev pub decreases-loop-rest : goal.decreases-loop-rest
decreases-loop-rest l = length l.rest
