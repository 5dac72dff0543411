use Rattle.std.proofs.Common.{◌≡◌, ◌+◌, ◌-◌, ◌≤◌, length, map, take, vec_capacity, vec_len}
use Rattle.relay_routes.specs.TableSteps.{pattern_hash}
use Rattle.relay_routes.proofs.transport_table.pattern_links.Given as goal

abbrev pub invariant-loop-entry : goal.invariant-loop-entry
invariant-loop-entry l = record {
  hashes : l.hashes.items ≡ map (pattern_hash l.key) (take l.entry-index l.entries);
  room : vec_len l.hashes + (length l.entries - l.entry-index) ≤ vec_capacity l.hashes;
}
