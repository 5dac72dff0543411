-- The hashes by which entries and include files are found.
use Rattle.std.specs.Prelude.{ℕ}
use Rattle.relay_chains.specs.TextHash.{text_hash}
use Rattle.relay_aliasfile.specs.declared.entry.Entry.{Entry}
use Rattle.relay_tables.specs.declared.include_entry.IncludeEntry.{IncludeEntry}

abbrev pub name_hash : ℕ → Entry → ℕ
name_hash key e = text_hash key e.name

abbrev pub path_hash : ℕ → IncludeEntry → ℕ
path_hash key e = text_hash key e.path
