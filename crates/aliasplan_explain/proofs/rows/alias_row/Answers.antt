use Rattle.std.proofs.Common.{◌≡◌, Option, Some, None, map, slice_get, refl, ap, sym, ◌∙◌}
use Rattle.std.specs.Borrow.{Bor}
use Rattle.std.specs.Option.{option_map}
use Rattle.std.proofs.lemmas.Result.{IfOk-weaker}
use Rattle.relay_text.specs.Lines.{logical_lines_of}
use Rattle.relay_aliasfile.specs.AliasFiles.{alias_file_of}
use Rattle.relay_aliasfile.specs.ItemPlaces.{IsRowOf, place_value}
use Rattle.relay_aliasfile.specs.declared.entry.Entry.{Entry}
use Rattle.aliasplan_explain.specs.Rows.{entry_row_if}
use Rattle.aliasplan_explain.proofs.RowFacts.{all_ascend, entry_got, line_of_entry, part_ascends, part_row, part_there, row_of_entry}
use Rattle.aliasplan_explain.proofs.rows.alias_row.Goals as goal

abbrev entry_now : Option (Bor Entry) → Option Entry
entry_now r = option_map (λ (x : Bor Entry). x.now) r

pub entry_places-requires-clause-ascending : goal.entry_places-requires-clause-ascending
entry_places-requires-clause-ascending c =
    let lines = c.args.grounds.now.alias_lines.now in
    let here = c.args.grounds.now.aliases in
    part_ascends lines (all_ascend c.args.grounds.now.job.now lines here c.entries_on_lines.ensures.ascending) c.in-Some.entry.now.line c.lines_near-lines.result.now c.lines_near-lines.ensures

pub entry_places-requires-clause-there : goal.entry_places-requires-clause-there
entry_places-requires-clause-there c =
    let job = c.args.grounds.now.job.now in
    let lines = c.args.grounds.now.alias_lines.now in
    let here = c.args.grounds.now.aliases in
    let entry = c.in-Some.entry.now in
    let at : slice_get (alias_file_of job.aliases).entries c.args.number ≡ Some entry =
    entry_got job c.args.grounds.now.basis.now.lookup.tables c.requires.made.tables c.aliases.result.now c.aliases.ensures.entries c.args.number c.get.result c.get.ensures.lookup ∙ ap entry_now c.in-Some.is in
    part_there lines (all_ascend job lines here c.entries_on_lines.ensures.ascending) entry.line c.lines_near-lines.result.now c.lines_near-lines.ensures entry refl
    (line_of_entry job lines here c.args.number entry at c.entries_on_lines.ensures.there)

pub returns-in-Some : goal.returns-in-Some
returns-in-Some c =
    let job = c.args.grounds.now.job.now in
    let lines = c.args.grounds.now.alias_lines.now in
    let here = c.args.grounds.now.aliases in
    let entry = c.in-Some.entry.now in
    let part = c.lines_near-lines.result.now in
    let at : slice_get (alias_file_of job.aliases).entries c.args.number ≡ Some entry =
    entry_got job c.args.grounds.now.basis.now.lookup.tables c.requires.made.tables c.aliases.result.now c.aliases.ensures.entries c.args.number c.get.result c.get.ensures.lookup ∙ ap entry_now c.in-Some.is in
    IfOk-weaker c.entry_places.result (λ places. IsRowOf part entry (map place_value places.items)) _
    (λ row is.
    row_of_entry job lines here c.args.number entry at c.entries_on_lines.ensures.ascending (map place_value row.items)
    (part_row lines (all_ascend job lines here c.entries_on_lines.ensures.ascending) entry.line part c.lines_near-lines.ensures entry (map place_value row.items) is))
    c.entry_places.ensures

pub returns-in-None : goal.returns-in-None
returns-in-None c =
    let job = c.args.grounds.now.job.now in
    let at : slice_get (alias_file_of job.aliases).entries c.args.number ≡ None =
    entry_got job c.args.grounds.now.basis.now.lookup.tables c.requires.made.tables c.aliases.result.now c.aliases.ensures.entries c.args.number c.get.result c.get.ensures.lookup ∙ ap entry_now c.in-None.is in
    ap (map place_value) c.new.ensures.items ∙ sym (ap (entry_row_if (logical_lines_of job.aliases).lines) at)
