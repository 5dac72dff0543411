use Rattle.std.proofs.Common.{◌≡◌, ◌+◌, ◌-◌, ◌≤◌, length, take, vec_capacity, vec_len}
use Rattle.relay_aliasfile.specs.Twins.{texts_of}
use Rattle.relay_aliasfile.proofs.distinct.places_of.Given as goal

abbrev pub invariant-loop-text : goal.invariant-loop-text
invariant-loop-text l = record {
  bytes : texts_of l.bytes.items ≡ take l.text-index l.texts;
  room : vec_len l.bytes + (length l.texts - l.text-index) ≤ vec_capacity l.bytes;
}
