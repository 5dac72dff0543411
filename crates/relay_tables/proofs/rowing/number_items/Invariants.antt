use Rattle.std.proofs.Common.{◌≡◌, map, take}
use Rattle.relay_tables.specs.Targets.{item_target}
use Rattle.relay_tables.specs.Numbering.{with_all}
use Rattle.relay_tables.specs.Rowing.{nodes_in, some_of}
use Rattle.relay_tables.proofs.rowing.number_items.Given as goal

abbrev pub invariant-loop-item : goal.invariant-loop-item
invariant-loop-item l = record {
  names : l.names ≡ with_all l.initial.names (map (item_target l.tables l.parent) (take l.item-index l.items));
  row : nodes_in l.names.nodes l.scratch.row.items ≡ some_of (map (item_target l.tables l.parent) (take l.item-index l.items));
}
