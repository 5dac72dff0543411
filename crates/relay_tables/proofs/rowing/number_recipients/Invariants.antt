use Rattle.std.proofs.Common.{◌≡◌, ◌+◌, ◌-◌, ◌≤◌, length, map, take, vec_capacity, vec_len}
use Rattle.relay_tables.specs.Targets.{recipient_target}
use Rattle.relay_tables.specs.Numbering.{with_all}
use Rattle.relay_tables.specs.Rowing.{nodes_in, some_of}
use Rattle.relay_tables.proofs.rowing.number_recipients.Given as goal

abbrev pub invariant-loop-address : goal.invariant-loop-address
invariant-loop-address l = record {
  names : l.names ≡ with_all l.initial.names (map (recipient_target l.tables) (take l.address-index l.recipients));
  roots : nodes_in l.names.nodes l.roots.items ≡ some_of (map (recipient_target l.tables) (take l.address-index l.recipients));
  room : vec_len l.roots + (length l.recipients - l.address-index) ≤ vec_capacity l.roots;
}
