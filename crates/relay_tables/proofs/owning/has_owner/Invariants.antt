use Rattle.std.proofs.Common.{◌≡◌, None, take}
use Rattle.relay_aliasfile.specs.declared.entry.Entry.{Entry}
use Rattle.relay_tables.specs.Tables.{owner_place}
use Rattle.relay_tables.proofs.owning.has_owner.Given as goal

-- no owner among the first entries
abbrev pub invariant-loop-entry : goal.invariant-loop-entry
invariant-loop-entry l = (e : Entry) → owner_place (take l.entry-index l.entries) e ≡ None
