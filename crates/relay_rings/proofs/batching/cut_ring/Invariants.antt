use Rattle.std.proofs.Common.{◌≡◌, ◌++◌, length}
use Rattle.relay_rings.specs.Batches.{transactions_of}
use Rattle.relay_rings.specs.RingLists.{list_at}
use Rattle.relay_rings.specs.Walks.{walk_rest}
use Rattle.relay_rings.proofs.batching.cut_ring.Given as goal

abbrev pub invariant-loop-left : goal.invariant-loop-left
invariant-loop-left l = record {
  long : l.left ≡ length (walk_rest l.walk);
  made : l.transactions.items ++ transactions_of l.key l.limit (walk_rest l.walk) ≡ l.initial.transactions.items ++ transactions_of l.key l.limit (list_at l.rings l.dest);
}

abbrev pub decreases-loop-left : goal.decreases-loop-left
decreases-loop-left l = l.left
