use Rattle.std.proofs.Common.{◌+◌, ◌-◌, ◌≤◌, length, sym, ◌∙◌, rules}
use Rattle.relay_aliasfile.proofs.ItemForms.{bracket_room}
use Rattle.relay_aliasfile.proofs.reading.in_brackets.Goals as goal

pub slice_bounds-result-count : goal.slice_bounds-result-count
slice_bounds-result-count c = bracket_room c.args.text.now c.in_ok-place.place c.in_ok-place.ensures.byte (sym c.ends_with.ensures ∙ c.if-not-ends_with.false)

pub slice_bounds-result-start : goal.slice_bounds-result-start
slice_bounds-result-start c =
    let room : c.in_ok-place.place + 1 ≤ length c.args.text.now - 1 = bracket_room c.args.text.now c.in_ok-place.place c.in_ok-place.ensures.byte (sym c.ends_with.ensures ∙ c.if-not-ends_with.false) in
    search (rules, room)
