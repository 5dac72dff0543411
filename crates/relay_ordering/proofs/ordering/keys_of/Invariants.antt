use Rattle.std.proofs.Common.{◌≡◌, map, All}
use Rattle.relay_ordering.specs.Keys.{IsKeyed}
use Rattle.relay_ordering.proofs.ordering.keys_of.Given as goal

abbrev pub invariant-loop-value : goal.invariant-loop-value
invariant-loop-value g l = record {
  values : map (λ k. k.value) l.keys.items ≡ l.yielded;
  keyed : All (IsKeyed g.T.HasSender.sender_of) l.keys.items;
}
