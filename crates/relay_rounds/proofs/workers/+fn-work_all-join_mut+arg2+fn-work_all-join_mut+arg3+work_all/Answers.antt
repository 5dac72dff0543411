use Rattle.std.proofs.Common.{rules, ◌++◌, sym, ap, ◌∙◌, subst}
use Rattle.relay_claims.specs.Seat.{first_half, second_half}
use Rattle.relay_rounds.specs.Winners.{HasKept, ClaimsAll, keys_won}
use Rattle.relay_rounds.proofs.Winners.{keys_won_append, rest_of_both}
use Rattle.relay_rounds.proofs.workers.+fn-work_all-join_mut+arg2+fn-work_all-join_mut+arg3+work_all.Goals as goal

pub returns-clause-rest : goal.returns-clause-rest
returns-clause-rest g t c = let one = c.unwrap.result in let two = c.unwrap-2.result in let seat = c.args.worker.seat in
    let a : ClaimsAll (first_half seat) one.seat = search rules in let b : ClaimsAll (second_half seat) two.seat = search rules in
    subst (λ s. ClaimsAll seat s) (sym c.join.ensures.seat) (rest_of_both seat one.seat two.seat a b)

pub returns-clause-kept : goal.returns-clause-kept
returns-clause-kept g t c fine = let one = c.unwrap.result in let two = c.unwrap-2.result in let keys = c.args.keys.now in
    let w = c.join.ensures.won fine in
    let a : HasKept keys one.seat one.refused one.won.items = search rules in let b : HasKept keys two.seat two.refused two.won.items = search rules in
    w.2 ∙ (λ i. a w.0 i ++ b w.1 i) ∙ sym (keys_won_append keys one.seat.settled two.seat.settled) ∙ ap (λ s. keys_won keys s.settled) (sym c.join.ensures.seat)
