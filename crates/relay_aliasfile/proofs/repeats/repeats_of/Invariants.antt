use Rattle.std.proofs.Common.{◌+◌, ◌-◌, ◌≤◌, length, map, vec_len, vec_capacity}
use Rattle.relay_aliasfile.specs.Repeats.{entry_name}
use Rattle.relay_aliasfile.proofs.NameRepeats.{AreSaid}
use Rattle.relay_aliasfile.proofs.repeats.repeats_of.Given as goal

abbrev pub invariant-loop-place : goal.invariant-loop-place
invariant-loop-place l = record {
  said : AreSaid l.repeats.items (map entry_name l.fn.entries) l.place;
  room : vec_len l.repeats + (length l.first-items - l.place) ≤ vec_capacity l.repeats;
}
