use Rattle.std.proofs.Common.{◌≡◌, ◌+◌, ◌-◌, ◌≤◌, length, map, take, vec_capacity, vec_len}
use Rattle.relay_delivery.specs.Cuts.{transaction_of}
use Rattle.relay_delivery.proofs.cutting.written.Given as goal

abbrev pub invariant-loop-cut : goal.invariant-loop-cut
invariant-loop-cut l = record {
  transactions : l.transactions.items ≡ map (transaction_of l.placing l.groups) (take l.cut-index l.cuts);
  room : vec_len l.transactions + (length l.cuts - l.cut-index) ≤ vec_capacity l.transactions;
}
