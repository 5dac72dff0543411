use Rattle.std.proofs.Common.{rules, ◌≡◌, ◌≤◌, List, ℕ, Bor, Some, length, drop, sym, ap, arith, ◌∙◌}
use Rattle.std.specs.Prelude.{option_map}
use Rattle.std.proofs.lemmas.List.{take_rest}
use Rattle.relay_text.specs.PlainTexts.{plain_front}
use Rattle.relay_text.proofs.PlainTexts.{front_split, front_length}
use Rattle.relay_aliasfile.specs.Items.{item_texts}
use Rattle.relay_aliasfile.specs.ItemTexts.{behind_comma}
use Rattle.relay_aliasfile.proofs.OpenTexts.{item_texts-trimmed, item_texts-front}
use Rattle.relay_aliasfile.proofs.item_texts.ItemTexts.next_plain.Goals as goal

pub slice_bounds-behind_comma-count : goal.slice_bounds-behind_comma-count
slice_bounds-behind_comma-count c =
    let front : Some c.in_ok-text.text ≡ plain_front c.trimmed_start-rest.result.now = sym c.in_ok-text.was ∙ c.at_front.ensures in
    omega (arith, ap length c.text.ensures.value, front_length c.trimmed_start-rest.result.now c.in_ok-text.text front)

pub slice_bounds-behind_comma-start : goal.slice_bounds-behind_comma-start
slice_bounds-behind_comma-start c =
    let front : Some c.in_ok-text.text ≡ plain_front c.trimmed_start-rest.result.now = sym c.in_ok-text.was ∙ c.at_front.ensures in
    let room : length c.text.result.now ≤ length c.trimmed_start-rest.result.now = omega (arith, ap length c.text.ensures.value, front_length c.trimmed_start-rest.result.now c.in_ok-text.text front) in
    search (rules, room)

pub returns-clause-some : goal.returns-clause-some
returns-clause-some c =
    let rest = c.trimmed_start-rest.result.now in
    let text = c.in_ok-text.text in
    let front : Some c.in_ok-text.text ≡ plain_front c.trimmed_start-rest.result.now = sym c.in_ok-text.was ∙ c.at_front.ensures in
    let behind : Some c.in_ok-more.more.now ≡ behind_comma (drop (length c.in_ok-text.text) c.trimmed_start-rest.result.now) =
    ap (option_map (λ (t : Bor (List ℕ)). t.now)) (sym c.in_ok-more.was) ∙ c.behind_comma.ensures ∙ ap behind_comma (take_rest rest (length c.text.result.now))
    ∙ ap (λ t. behind_comma (drop (length t) rest)) c.text.ensures.value in
    sym (item_texts-trimmed c.args.self.now.rest.now) ∙ ap item_texts (sym c.trimmed_start-rest.ensures)
    ∙ ap item_texts (sym (front_split rest text front)) ∙ item_texts-front text (drop (length text) rest) c.in_ok-more.more.now c.text.ensures.open behind
