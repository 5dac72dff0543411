use Rattle.std.proofs.Common.{◌≡◌, ◌+◌, ◌-◌, ◌≤◌, vec_capacity, vec_len}
use Rattle.std.specs.List.{range_with_len}
use Rattle.relay_aliasfile.proofs.first_places.all_places.Given as goal

abbrev pub invariant-loop-place : goal.invariant-loop-place
invariant-loop-place l = record {
  places : l.places.items ≡ range_with_len 0 l.place;
  room : vec_len l.places + (l.count - l.place) ≤ vec_capacity l.places;
}
