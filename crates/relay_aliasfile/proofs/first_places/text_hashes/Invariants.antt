use Rattle.std.proofs.Common.{◌≡◌, ◌+◌, ◌-◌, ◌≤◌, length, map, take, vec_capacity, vec_len}
use Rattle.relay_chains.specs.TextHash.{text_hash, fixed_key}
use Rattle.relay_aliasfile.specs.Twins.{texts_of}
use Rattle.relay_aliasfile.proofs.first_places.text_hashes.Given as goal

abbrev pub invariant-loop-text : goal.invariant-loop-text
invariant-loop-text l = record {
  hashes : l.hashes.items ≡ map (text_hash fixed_key) (texts_of (take l.text-index l.texts));
  room : vec_len l.hashes + (length l.texts - l.text-index) ≤ vec_capacity l.hashes;
}
