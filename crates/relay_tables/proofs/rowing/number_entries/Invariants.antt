use Rattle.std.proofs.Common.{◌≡◌, length, map, take}
use Rattle.std.specs.List.{flat_map}
use Rattle.relay_tables.specs.Targets.{targets_of}
use Rattle.relay_tables.specs.Graphs.{entry_nodes}
use Rattle.relay_tables.specs.Numbering.{with_all}
use Rattle.relay_tables.specs.Rowing.{LeadTo}
use Rattle.relay_tables.proofs.rowing.number_entries.Given as goal

abbrev pub invariant-loop-number : goal.invariant-loop-number
invariant-loop-number l = record {
  count : length l.rows ≡ l.number;
  names : l.names ≡ with_all l.initial.names (flat_map (targets_of l.tables) (take l.number (entry_nodes l.tables)));
  rows : LeadTo l.names.nodes l.rows (map (targets_of l.tables) (take l.number (entry_nodes l.tables)));
}
