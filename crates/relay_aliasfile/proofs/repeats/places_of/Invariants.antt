use Rattle.std.proofs.Common.{◌≡◌, ◌+◌, ◌-◌, ◌≤◌, length, map, take, vec_capacity, vec_len}
use Rattle.relay_aliasfile.specs.Repeats.{entry_name}
use Rattle.relay_aliasfile.specs.Twins.{texts_of}
use Rattle.relay_aliasfile.proofs.repeats.places_of.Given as goal

abbrev pub invariant-loop-entry : goal.invariant-loop-entry
invariant-loop-entry l = record {
  names : texts_of l.names.items ≡ map entry_name (take l.entry-index l.entries);
  room : vec_len l.names + (length l.entries - l.entry-index) ≤ vec_capacity l.names;
}
