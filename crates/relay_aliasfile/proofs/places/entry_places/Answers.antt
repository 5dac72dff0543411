use Rattle.std.proofs.Common.{ℕ, List, Option, map, sym, ap, ◌∙◌, rules}
use Rattle.std.specs.Borrow.{Bor}
use Rattle.std.specs.Option.{option_map}
use Rattle.std.proofs.lemmas.List.Sorted.{answers_always}
use Rattle.std.proofs.lemmas.Result.{IfOk-weaker}
use Rattle.relay_text.specs.declared.lines.Line.{Line}
use Rattle.relay_aliasfile.proofs.EntryLines.{found_line, has_list, not_without_line, row_of, text_there}
use Rattle.relay_aliasfile.specs.ItemPlaces.{place_value}
use Rattle.relay_aliasfile.proofs.places.entry_places.Goals as goal

abbrev number_of : Line → ℕ
number_of l = l.number

abbrev list_now : Bor (List ℕ) → List ℕ
list_now list = list.now

pub unreachable-requires : goal.unreachable-requires
unreachable-requires c =
    let by_key = c.in_default.ensures.position number_of (answers_always _ _ _ (λ f a r g called. search rules)) in
    not_without_line c.args.lines.now c.requires.ascending c.args.entry.now c.requires.there.0 c.requires.there.1 c.in_default.field-0 by_key

pub unreachable-requires-in-None : goal.unreachable-requires-in-None
unreachable-requires-in-None c =
    let by_key = c.in-Ok.ensures.position number_of (answers_always _ _ _ (λ f a r g called. search rules)) in
    let found = found_line c.args.lines.now c.requires.ascending c.args.entry.now c.requires.there.0 c.requires.there.1 c.in-Ok.place c.in-Ok.ensures.bound by_key in
    let text = text_there c.args.lines.now c.requires.ascending c.args.entry.now c.requires.there.0 c.requires.there.1 c.in-Ok.place c.index-lines-place.result c.as_bytes.result.now found c.as_bytes.ensures in
    let headed = sym (ap (λ (o : Option (Bor (List ℕ))). option_map list_now o) c.in-None.is) ∙ c.in_ok-list.ensures in
    has_list c.args.lines.now c.requires.ascending c.args.entry.now c.requires.there.0 c.requires.there.1 c.as_bytes.result.now text headed

pub returns : goal.returns
returns c =
    let by_key = c.in-Ok.ensures.position number_of (answers_always _ _ _ (λ f a r g called. search rules)) in
    let found = found_line c.args.lines.now c.requires.ascending c.args.entry.now c.requires.there.0 c.requires.there.1 c.in-Ok.place c.in-Ok.ensures.bound by_key in
    let text = text_there c.args.lines.now c.requires.ascending c.args.entry.now c.requires.there.0 c.requires.there.1 c.in-Ok.place c.index-lines-place.result c.as_bytes.result.now found c.as_bytes.ensures in
    let headed = sym (ap (λ (o : Option (Bor (List ℕ))). option_map list_now o) c.in-Some.is) ∙ c.in_ok-list.ensures in
    IfOk-weaker c.list_places.result _ _ (λ places is. row_of c.args.lines.now c.requires.ascending c.args.entry.now c.requires.there.0 c.requires.there.1 c.as_bytes.result.now c.in-Some.list.now (map place_value places.items) text headed is) c.list_places.ensures
