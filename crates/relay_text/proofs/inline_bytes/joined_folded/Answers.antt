use Rattle.std.proofs.Common.{List, [], ◌∷◌, ◌++◌, ℕ, ap, ◌∙◌}
use Rattle.std.proofs.lemmas.List.{append_assoc}
use Rattle.relay_text.proofs.InlineBytes.{folded_behind}
use Rattle.relay_text.proofs.inline_bytes.joined_folded.Goals as goal

pub returns : goal.returns
returns c =
    let front = c.put_bytes.ensures.items ∙ ap (λ (t : List ℕ). t ++ c.args.front.now) c.in_ok-bytes.ensures.items in
    let middle = c.push_reserved.ensures.items ∙ ap (λ (t : List ℕ). t ++ c.args.between ∷ []) front in
    let row = c.put_bytes-2.ensures.items ∙ ap (λ (t : List ℕ). t ++ c.args.back.now) middle ∙ append_assoc c.args.front.now (c.args.between ∷ []) c.args.back.now in
    folded_behind c.args.front.now c.args.back.now _ _ c.args.between row c.fold_behind.ensures
