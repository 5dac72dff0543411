use Rattle.std.proofs.Common.{◌+◌, ◌++◌, ◌∷◌, [], ap, sym, ◌∙◌, length, take, filter, arith}
use Rattle.std.proofs.lemmas.List.{take_rest, drop_all}
use Rattle.relay_text.specs.Bytes.{trimmed}
use Rattle.relay_aliasfile.specs.Items.{item_texts, is_text}
use Rattle.relay_aliasfile.proofs.ItemLists.{item_texts-cut, item_texts-last}
use Rattle.relay_aliasfile.proofs.item_texts.ItemTexts.next_piece.Goals as goal

pub returns-in-Some-clause-texts : goal.returns-in-Some-clause-texts
returns-in-Some-clause-texts c =
    let list = c.args.self.now.rest.now in
    let place = c.in-Some.place in
    item_texts-cut list place c.in-Some.ensures.place
    ∙ ap (λ rest. filter is_text (trimmed (take place list) ∷ []) ++ item_texts rest) (sym (take_rest list (place + 1)))

pub returns-in-None-clause-texts : goal.returns-in-None-clause-texts
returns-in-None-clause-texts c =
    let list = c.args.self.now.rest.now in
    item_texts-last list c.in-None.ensures.place
    ∙ ap (λ rest. filter is_text (trimmed list ∷ []) ++ item_texts rest) (sym (take_rest list (length list) ∙ drop_all (length list) list (omega arith)))
