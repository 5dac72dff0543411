use Rattle.std.proofs.Common.{Option, Some, ap, sym, ◌∙◌}
use Rattle.std.specs.Borrow.{Bor}
use Rattle.std.specs.Option.{option_map}
use Rattle.relay_aliasfile.specs.ItemPlaces.{place_value}
use Rattle.relay_aliasfile.specs.declared.places.ItemPlace.{ItemPlace}
use Rattle.relay_explain.specs.declared.entry.Entry.{Entry}
use Rattle.relay_explain.specs.declared.listed.Listed.{Listed}
use Rattle.aliasplan_explain.specs.Rows.{listed_in}
use Rattle.aliasplan_explain.proofs.RowFacts.{listed_got}
use Rattle.aliasplan_explain.proofs.rows.listed_at.Goals as goal

abbrev listed_if : Entry → Option (Bor ItemPlace) → Option Listed
listed_if entry r = option_map (listed_in entry) (option_map place_value (option_map (λ (x : Bor ItemPlace). x.now) r))

pub returns-in_ok-listed_in-in-Some-get : goal.returns-in_ok-listed_in-in-Some-get
returns-in_ok-listed_in-in-Some-get c =
    let entry = c.in-Some.entry in
    let got = listed_got c.args.grounds.now.job.now c.args.node.now entry c.args.grounds.now.basis.now.lookup.tables c.requires.made.tables (sym c.in-Some.is ∙ c.in_ok-entry.ensures)
    c.in_ok-row.row.items c.in_ok-row.ensures c.deref.result.now c.deref.ensures.value c.args.item c.get.result c.get.ensures.lookup in
    ap (λ (l : Listed). Some l) c.in_ok-listed_in-in-Some-get.ensures ∙ sym (got ∙ ap (listed_if entry) c.in-Some-get.is)

pub returns-in-None : goal.returns-in-None
returns-in-None c =
    let entry = c.in-Some.entry in
    let got = listed_got c.args.grounds.now.job.now c.args.node.now entry c.args.grounds.now.basis.now.lookup.tables c.requires.made.tables (sym c.in-Some.is ∙ c.in_ok-entry.ensures)
    c.in_ok-row.row.items c.in_ok-row.ensures c.deref.result.now c.deref.ensures.value c.args.item c.get.result c.get.ensures.lookup in
    sym (got ∙ ap (listed_if entry) c.in-None.is)
