use Rattle.std.proofs.Common.{◌≡◌, ◌+◌, ◌≤◌, ◌++◌, take, drop, length, flat_map, vec_len, vec_capacity}
use Rattle.relay_text.specs.Addresses.{quoted_byte}
use Rattle.relay_text.proofs.write.put_quoted.Given as goal

abbrev pub invariant-loop-byte : goal.invariant-loop-byte
invariant-loop-byte l = record {
  written : l.out.items ≡ l.initial.out.items ++ flat_map quoted_byte (take l.byte-index l.local);
  counted : vec_len l.out + length (flat_map quoted_byte (drop l.byte-index l.local)) ≡ vec_len l.initial.out + length (flat_map quoted_byte l.local);
  room : vec_capacity l.initial.out ≤ vec_capacity l.out;
}
