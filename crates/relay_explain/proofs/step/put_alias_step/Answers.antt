use Rattle.std.proofs.Common.{ℕ, List, ◌++◌, ◌∷◌, [], codes, decimal, ap, ◌∙◌}
use Rattle.relay_text.specs.Addresses.{local_text_of}
use Rattle.relay_explain.proofs.Pieces.{alias_line_is}
use Rattle.relay_explain.proofs.step.put_alias_step.Goals as goal

pub returns : goal.returns
returns c =
    let first = c.in_ok-extend_from_slice.ensures.items in
    let from = c.in_ok-put_name.ensures ∙ ap (λ (l : List ℕ). l ++ 32 ∷ local_text_of c.args.from.now) first in
    let line = c.in_ok-extend_from_slice-2.ensures.items ∙ ap (λ (l : List ℕ). l ++ codes " line") from in
    let number = c.in_ok-put_number.ensures ∙ ap (λ (l : List ℕ). l ++ 32 ∷ decimal c.args.number) line in
    let item_word = c.in_ok-extend_from_slice-3.ensures.items ∙ ap (λ (l : List ℕ). l ++ codes " item") number in
    let item = c.in_ok-put_number-2.ensures ∙ ap (λ (l : List ℕ). l ++ 32 ∷ decimal c.args.item) item_word in
    let text = c.in_ok-put_word.ensures ∙ ap (λ (l : List ℕ). l ++ 32 ∷ c.args.text.now) item in
    let is = c.in_ok-extend_from_slice-4.ensures.items ∙ ap (λ (l : List ℕ). l ++ codes " is alias") text in
    let to = c.in_ok-put_name-2.ensures ∙ ap (λ (l : List ℕ). l ++ 32 ∷ local_text_of c.args.to.now) is in
    c.in_ok-push.ensures.items
    ∙ ap (λ (l : List ℕ). l ++ 10 ∷ []) to
    ∙ alias_line_is c.args.out.now.items (local_text_of c.args.from.now) (decimal c.args.number) (decimal c.args.item) c.args.text.now (local_text_of c.args.to.now)
