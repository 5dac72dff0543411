-- What a `Tables` is to its callers: the local domains, the alias table with one entry per folded name, the include files of the
-- job by their paths, and the folded names of the mailboxes.
use Rattle.std.specs.Prelude.{ℕ, List}
use Rattle.relay_aliasfile.specs.declared.entry.Entry.{Entry}
use Rattle.relay_tables.specs.declared.local.Local.{Local}
use Rattle.relay_tables.specs.declared.include_entry.IncludeEntry.{IncludeEntry}

pub record Directory : Type 0 where
  pub local : Local
  pub aliases : List Entry
  pub includes : List IncludeEntry
  pub mailboxes : List (List ℕ)
