use Rattle.std.proofs.Common.{◌≡◌, ◌+◌, ◌-◌, ◌≤◌, length, map, take, vec_capacity, vec_len}
use Rattle.relay_routes.specs.MxRecords.{domain_hash}
use Rattle.relay_routes.proofs.mx_records.domain_hashes.Given as goal

abbrev pub invariant-loop-record : goal.invariant-loop-record
invariant-loop-record l = record {
  hashes : l.hashes.items ≡ map (domain_hash l.key) (take l.record-index l.records);
  room : vec_len l.hashes + (length l.records - l.record-index) ≤ vec_capacity l.hashes;
}
