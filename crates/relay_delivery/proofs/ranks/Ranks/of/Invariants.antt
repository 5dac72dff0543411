use Rattle.std.proofs.Common.{◌+◌, ◌-◌, ◌≤◌, length, vec_capacity, vec_len}
use Rattle.relay_delivery.proofs.RankFacts.{AreRanked, parts_of}
use Rattle.relay_delivery.proofs.ranks.Ranks.of.Given as goal

abbrev pub invariant-loop-index : goal.invariant-loop-index
invariant-loop-index g l = record {
  ranked : AreRanked (parts_of l.fn.keys.items) l.key-items l.order.items l.place_of.items l.index;
  room : vec_len l.order + (length l.key-items - l.index) ≤ vec_capacity l.order;
}
