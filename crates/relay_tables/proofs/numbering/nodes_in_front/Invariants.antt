use Rattle.std.proofs.Common.{◌≡◌, ◌+◌, ◌-◌, ◌≤◌, take, vec_capacity, vec_len}
use Rattle.relay_tables.specs.Numbering.{entries_of}
use Rattle.relay_tables.proofs.numbering.nodes_in_front.Given as goal

abbrev pub invariant-loop-number : goal.invariant-loop-number
invariant-loop-number l = record {
  nodes : l.nodes.items ≡ take l.number (entries_of l.aliases l.includes);
  room : vec_len l.nodes + (l.aliases + l.includes - l.number) ≤ vec_capacity l.nodes;
}
