use Rattle.std.proofs.Common.{rules, sym, subst}
use Rattle.relay_claims.specs.Seat.{first_half, second_half}
use Rattle.relay_claims.specs.Work.{ClaimsTheRest}
use Rattle.relay_claims.proofs.Work.{rest_of_both}
use Rattle.round_tests.proofs.workers.+fn-work_all-join_mut+arg2+fn-work_all-join_mut+arg3+work_all.Goals as goal

pub returns : goal.returns
returns g t c = let one = c.unwrap.result in let two = c.unwrap-2.result in
    let a : ClaimsTheRest (first_half c.args.seat) one = search rules in let b : ClaimsTheRest (second_half c.args.seat) two = search rules in
    subst (λ s. ClaimsTheRest c.args.seat s) (sym c.join.ensures) (rest_of_both c.args.seat one two a b)
