use Rattle.std.proofs.Common.{◌≡◌, ◌+◌, ◌-◌, ◌≤◌, length, take, vec_capacity, vec_len}
use Rattle.relay_wire.specs.FoundLines.{lines_beside}
use Rattle.relay_wire.proofs.found.lines_alone.Given as goal

abbrev pub invariant-loop-one : goal.invariant-loop-one
invariant-loop-one l = record {
  lines : l.lines.items ≡ lines_beside (take l.one-index l.found);
  room : vec_len l.lines + (length l.found - l.one-index) ≤ vec_capacity l.lines;
}
