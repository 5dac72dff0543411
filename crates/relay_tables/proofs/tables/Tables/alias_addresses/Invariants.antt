use Rattle.std.proofs.Common.{◌≡◌, ◌+◌, ◌-◌, ◌≤◌, length, take, map, vec_capacity, vec_len}
use Rattle.relay_aliasfile.specs.declared.entry.Entry.{Entry}
use Rattle.relay_tables.specs.Targets.{at_origin}
use Rattle.relay_tables.proofs.tables.Tables.alias_addresses.Given as goal

-- the addresses of the first entries, and room for the others
abbrev pub invariant-loop-entry : goal.invariant-loop-entry
invariant-loop-entry l = record {
  addresses : l.addresses.items ≡ map (λ (entry : Entry). at_origin l.self entry.name) (take l.entry-index l.entry-items);
  room : vec_len l.addresses + (length l.entry-items - l.entry-index) ≤ vec_capacity l.addresses;
}
