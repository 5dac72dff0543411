use Rattle.std.proofs.Common.{◌<◌, ◌∙◌, length, Some, ap, arith}
use Rattle.relay_delivery.proofs.PickFacts.{picks_whole}
use Rattle.relay_delivery.proofs.picks.picked_by_crew.Goals as goal

pub returns : goal.returns
returns g c =
    let from = c.args.from.now in
    let numbers = c.args.numbers.now in
    let picks = c.in_ok-picks.picks in
    picks_whole from numbers picks.items c.for_each_mut.new.s picks.len
    (omega (arith, picks.ok.0))
    (omega (arith, picks.ok.0, c.as_mut_slice.ensures.len, c.for_each_mut.auto.s))
    (omega (arith, picks.ok.0, c.in_ok-picks.ensures.len))
    (λ k d inside.
    let within : k < length c.as_mut_slice.result.now = omega (arith, inside, c.in_ok-picks.ensures.len, picks.ok.0, c.as_mut_slice.ensures.len) in
    let at = (c.for_each_mut.ensures k d within).1 in
    at.call ∙ ap (λ x. Some x) at.left)
