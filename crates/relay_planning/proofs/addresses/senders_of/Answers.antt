use Rattle.std.proofs.Common.{◌≡◌, ◌<◌, [], ◌∷◌, ◌++◌, length, get_or, take, arith, ap, sym, ◌∙◌}
use Rattle.std.specs.Prelude.{None, option_copied, map}
use Rattle.std.proofs.lemmas.List.{take_more, map-append}
use Rattle.std.proofs.lemmas.Option.{get_or_from_slice_get}
use Rattle.relay_planning.proofs.addresses.senders_of.Goals as goal

pub loop-number-preserved : goal.loop-number-preserved
loop-number-preserved c =
    let senders = c.args.graph.now.senders in
    let i = c.loop-number.number in
    let inside : i < length senders = omega (arith, c.senders.ensures) in
    let here : get_or senders i None ≡ option_copied c.sender.result = get_or_from_slice_get senders i (option_copied c.sender.result) None c.sender.ensures in
    ap (map option_copied) c.in_ok-push.ensures.items
    ∙ map-append option_copied c.loop-number.senders.items (c.sender.result ∷ [])
    ∙ ap (λ xs. xs ++ option_copied c.sender.result ∷ []) c.loop-number.invariant
    ∙ sym (take_more senders i None inside ∙ ap (λ x. take i senders ++ x ∷ []) here)
