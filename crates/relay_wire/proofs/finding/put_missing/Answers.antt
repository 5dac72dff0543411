use Rattle.std.proofs.Common.{List, ℕ, ◌++◌, ap, ◌∙◌}
use Rattle.std.proofs.lemmas.Result.{on_ok_weaker}
use Rattle.relay_text.specs.Addresses.{local_text_of}
use Rattle.relay_wire.specs.Findings.{after_spaces, place_words}
use Rattle.relay_wire.proofs.Pieces.{words_behind}
use Rattle.relay_wire.proofs.finding.put_missing.Goals as goal

pub returns-clause-ok : goal.returns-clause-ok
returns-clause-ok c =
    let place = place_words c.args.place.now in
    on_ok_weaker c.put_place.result
    (λ put. put ∙ ap (λ (front : List ℕ). front ++ after_spaces place) c.in_ok-put_local.ensures.ok ∙ words_behind c.args.out.now.items c.args.words.now (local_text_of c.args.name.now) place)
    c.put_place.ensures.ok
