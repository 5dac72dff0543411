use Rattle.std.proofs.Common.{◌≡◌, List, map, take}
use Rattle.std.specs.List.{flat_map}
use Rattle.relay_rings.specs.Batches.{batches_at, items_at}
use Rattle.relay_rings.specs.declared.batching.Placed.{Placed}
use Rattle.relay_rings.proofs.batching.cut_rings.Given as goal

abbrev pub invariant-loop-dest : goal.invariant-loop-dest
invariant-loop-dest l = (placed : List Placed) → l.rings.lists ≡ map (items_at placed) l.keys → l.transactions.items ≡ flat_map (batches_at l.limits placed) (take l.dest l.keys)
