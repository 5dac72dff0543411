use Rattle.std.proofs.Common.{◌≡◌, take, drop}
use Rattle.relay_rings.specs.Walks.{walk_rest}
use Rattle.relay_rings.proofs.batching.next_items.Given as goal

abbrev pub invariant-loop : goal.invariant-loop
invariant-loop l = record {
  taken : l.items.items ≡ take l.counter (walk_rest l.initial.walk);
  rest : walk_rest l.walk ≡ drop l.counter (walk_rest l.initial.walk);
}
