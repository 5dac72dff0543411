use Rattle.std.proofs.Common.{ℕ, ◌<◌, List, [], ◌++◌, length, get_or, take, ap, ◌∙◌}
use Rattle.std.proofs.lemmas.List.{take_more, flat_map_more}
use Rattle.relay_rounds.proofs.expanding.next_of_share.Goals as goal

pub loop-key-preserved : goal.loop-key-preserved
loop-key-preserved g c =
    let f = g.S.Steps.next_keys c.args.steps.now in
    let keys = c.args.keys.now in
    let i : ℕ = c.loop-key.key-index in
    let short : i < length keys = c.loop-key-test.true in
    rw (take_more keys i 0 short)
    (c.in_ok-append.ensures ∙ ap (λ (xs : List ℕ). xs ++ f (get_or keys i 0)) c.loop-key.invariant ∙ flat_map_more f [] (take i keys) (get_or keys i 0))
