use Rattle.std.proofs.Common.{◌≡◌, ◌++◌, take}
use Rattle.std.specs.Prelude.{filter_map}
use Rattle.relay_aliasfile.specs.IncludeNames.{included_path}
use Rattle.relay_aliasfile.proofs.paths.add_paths.Given as goal

-- the paths of the items so far
abbrev pub invariant-loop-item : goal.invariant-loop-item
invariant-loop-item l = l.paths.items ≡ l.initial.paths.items ++ filter_map included_path (take l.item-index l.items)
