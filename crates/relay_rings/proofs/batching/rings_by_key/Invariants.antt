use Rattle.std.proofs.Common.{◌≡◌, ◌-◌, length, map, take}
use Rattle.relay_rings.specs.Batches.{items_at, keys_of}
use Rattle.relay_rings.specs.RingLists.{held_count}
use Rattle.relay_rings.proofs.batching.rings_by_key.Given as goal

abbrev pub invariant-loop-p : goal.invariant-loop-p
invariant-loop-p l = record {
  lists : l.rings.lists ≡ map (items_at (take l.p-index l.placed)) l.keys;
  limit : l.rings.limit ≡ length l.placed;
  held : held_count l.rings ≡ l.p-index;
  place : l.dest ≡ length (keys_of (take l.p-index l.placed)) - 1;
}
