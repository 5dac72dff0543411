use Rattle.std.proofs.Common.{◌≡◌, ◌+◌, ◌-◌, ◌≤◌, length, take, vec_capacity, vec_len}
use Rattle.relay_chains.specs.Links.{hashes_of}
use Rattle.relay_chains.proofs.links.unlinked.Given as goal

abbrev pub invariant-loop-hash : goal.invariant-loop-hash
invariant-loop-hash l = record {
  hashes : hashes_of l.nodes.items ≡ take l.hash-index l.hashes;
  room : vec_len l.nodes + (length l.hashes - l.hash-index) ≤ vec_capacity l.nodes;
}
