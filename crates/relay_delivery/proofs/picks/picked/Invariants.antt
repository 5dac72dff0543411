use Rattle.std.proofs.Common.{◌≡◌, ◌+◌, ◌-◌, ◌≤◌, length, take, map, Some, vec_capacity, vec_len}
use Rattle.std.specs.Prelude.{slice_get}
use Rattle.relay_delivery.proofs.picks.picked.Given as goal

abbrev pub invariant-loop-number : goal.invariant-loop-number
invariant-loop-number g l = record {
  picks : map (λ x. Some x) l.picks.items ≡ map (slice_get l.from) (take l.number-index l.numbers);
  room : vec_len l.picks + (length l.numbers - l.number-index) ≤ vec_capacity l.picks;
}
