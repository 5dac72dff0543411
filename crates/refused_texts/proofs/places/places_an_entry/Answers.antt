use Rattle.std.proofs.Common.{◌≡◌, ◌≤◌, List, length, slice_index_or, ap, sym, ◌∙◌, subst, arith}
use Rattle.std.specs.Prelude.{Contains}
use Rattle.relay_text.specs.declared.lines.Line.{Line}
use Rattle.relay_text.specs.declared.lines.Lines.{Lines}
use Rattle.relay_aliasfile.specs.ItemPlaces.{IsEntryLine}
use Rattle.relay_aliasfile.specs.declared.aliases.AliasFile.{AliasFile}
use Rattle.relay_aliasfile.specs.declared.entry.Entry.{Entry}
use Rattle.refused_texts.proofs.places.places_an_entry.Goals as goal

first_in : (xs ys : List Entry) (e : Entry) → xs ≡ ys → 1 ≤ length xs → e ≡ slice_index_or xs 0 e → Contains ys e
first_in xs ys e same long is = subst (λ (es : List Entry). Contains es e) same (0, omega (arith, long), sym is)

on_lines : (here there : List Line) (e : Entry) → here ≡ there → ((l : Line) × IsEntryLine there e l) → ((l : Line) × IsEntryLine here e l)
on_lines here there e same l = subst (λ (ls : List Line). (l : Line) × IsEntryLine ls e l) (sym same) l

pub entry_places-requires-clause-there : goal.entry_places-requires-clause-there
entry_places-requires-clause-there c =
    on_lines _ _ c.entry-item.result (c.as_slice-in-len1.ensures ∙ ap (λ (ls : Lines). ls.lines) c.in-Ok.ensures)
    (c.entries_on_lines.ensures.there _ c.entry-item.result (first_in c.as_slice.result.now _ c.entry-item.result (c.as_slice.ensures ∙ ap (λ (f : AliasFile). f.entries) c.in_ok-file.ensures) c.in-len1.len_at_least c.entry-item.is))

pub entry_places-requires-in-len1-clause-there : goal.entry_places-requires-in-len1-clause-there
entry_places-requires-in-len1-clause-there c =
    on_lines _ _ c.entry-item.result (c.as_slice-in-len1-2.ensures ∙ ap (λ (ls : Lines). ls.lines) c.in-Ok.ensures)
    (c.entries_on_lines.ensures.there _ c.entry-item.result (first_in c.as_slice.result.now _ c.entry-item.result (c.as_slice.ensures ∙ ap (λ (f : AliasFile). f.entries) c.in_ok-file.ensures) c.in-len1.len_at_least c.entry-item.is))
