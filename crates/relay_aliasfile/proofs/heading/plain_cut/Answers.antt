use Rattle.std.proofs.Common.{rules, ◌≡◌, ◌≤◌, ◌∷◌, ◌++◌, Some, length, drop, sym, ap, arith, ◌∙◌}
use Rattle.std.proofs.lemmas.List.{take_rest}
use Rattle.relay_text.specs.PlainTexts.{plain_front}
use Rattle.relay_text.proofs.PlainTexts.{front_split, front_length}
use Rattle.relay_aliasfile.specs.AliasFiles.{heading_of}
use Rattle.relay_aliasfile.proofs.OpenTexts.{heading_of-open}
use Rattle.relay_aliasfile.proofs.heading.plain_cut.Goals as goal

pub slice_bounds-behind_colon-count : goal.slice_bounds-behind_colon-count
slice_bounds-behind_colon-count c =
    let front : Some c.in_ok-name.name ≡ plain_front c.args.text.now = sym c.in_ok-name.was ∙ c.at_front.ensures in
    omega (arith, ap length c.text.ensures.value, front_length c.args.text.now c.in_ok-name.name front)

pub slice_bounds-behind_colon-start : goal.slice_bounds-behind_colon-start
slice_bounds-behind_colon-start c =
    let front : Some c.in_ok-name.name ≡ plain_front c.args.text.now = sym c.in_ok-name.was ∙ c.at_front.ensures in
    let room : length c.text.result.now ≤ length c.args.text.now = omega (arith, ap length c.text.ensures.value, front_length c.args.text.now c.in_ok-name.name front) in
    search (rules, room)

pub returns : goal.returns
returns c =
    let text = c.args.text.now in
    let name = c.in_ok-name.name in
    let list = c.in_ok-list.list.now in
    let front : Some c.in_ok-name.name ≡ plain_front c.args.text.now = sym c.in_ok-name.was ∙ c.at_front.ensures in
    let behind : drop (length c.in_ok-name.name) c.args.text.now ≡ 58 ∷ c.in_ok-list.list.now =
    ap (λ t. drop (length t) text) (sym c.text.ensures.value) ∙ sym (take_rest text (length c.text.result.now)) ∙ c.in_ok-list.ensures in
    ap heading_of (sym (front_split text name front) ∙ ap (λ rest. name ++ rest) behind) ∙ heading_of-open name list c.text.ensures.open
