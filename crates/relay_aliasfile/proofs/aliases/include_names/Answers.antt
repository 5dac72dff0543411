use Rattle.std.proofs.Common.{◌++◌, arith, ap, ◌∙◌}
use Rattle.std.specs.Prelude.{filter_map}
use Rattle.relay_aliasfile.specs.IncludeNames.{included_path}
use Rattle.relay_aliasfile.proofs.IncludePaths.{entries_more}
use Rattle.relay_aliasfile.proofs.aliases.include_names.Goals as goal

pub loop-entry-preserved : goal.loop-entry-preserved
loop-entry-preserved c =
    let paths = c.loop-entry.paths.items in
    c.in_ok-add_paths.ensures
    ∙ ap (λ items. paths ++ filter_map included_path items) c.as_slice.ensures
    ∙ entries_more c.as_slice-entry-items.result.now c.loop-entry.entry-index c.entry-item.result paths (omega arith) c.entry-item.is c.loop-entry.invariant
