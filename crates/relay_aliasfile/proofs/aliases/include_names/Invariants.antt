use Rattle.std.proofs.Common.{◌≡◌, take}
use Rattle.std.specs.Prelude.{filter_map}
use Rattle.relay_aliasfile.specs.AliasFiles.{entry_items}
use Rattle.relay_aliasfile.specs.IncludeNames.{included_path}
use Rattle.relay_aliasfile.proofs.aliases.include_names.Given as goal

-- the paths of the entries so far
abbrev pub invariant-loop-entry : goal.invariant-loop-entry
invariant-loop-entry l = l.paths.items ≡ filter_map included_path (entry_items (take l.entry-index l.entry-items))
