use Rattle.std.proofs.Common.{◌≡◌, ◌≤◌, ◌++◌, ◌+◌, ◌-◌, take, length, vec_len, vec_capacity}
use Rattle.relay_loops.specs.Places.{open_keys}
use Rattle.relay_loops.proofs.steps.push_open.Given as goal

abbrev pub invariant-loop-other : goal.invariant-loop-other
invariant-loop-other l = record {
  room : vec_len l.next + (length l.near - l.other-index) ≤ vec_capacity l.next;
  pushed : l.next.items ≡ l.initial.next.items ++ open_keys l.direction l.places l.node (take l.other-index l.near);
}
