use Rattle.std.proofs.Common.{◌≡◌, true, false, Bor, length, get_or, sym, ap, arith}
use Rattle.std.proofs.lemmas.Bool.Decides.{nat_tests}
use Rattle.relay_routes.specs.declared.exchange.Exchange.{Exchange}
use Rattle.relay_routes.proofs.Runs.{is_later, run_found, place_here, place_past, place_end}
use Rattle.relay_routes.proofs.preferences.run_len.Goals as goal

pub returns-then-exchange-preference-clause-run : goal.returns-then-exchange-preference-clause-run
returns-then-exchange-preference-clause-run c =
    let rs = c.args.exchangers.now in
    let first = c.index-exchangers-0.result in
    let p = (get_or rs 0 first).now.preference in
    let other = c.index-exchangers-place.result in
    let later : is_later p other.now ≡ true = grind (arith, nat_tests) in
    run_found rs first p c.loop-place.place c.requires.some c.index-exchangers-0.is (ap (λ (r : Bor Exchange). r.now.preference) (sym c.index-exchangers-0.is)) c.requires.rising
    (place_here (λ r. is_later p r.now) rs c.loop-place.place other c.loop-place-test.true c.index-exchangers-place.is later c.loop-place.invariant)

pub loop-place-preserved : goal.loop-place-preserved
loop-place-preserved c =
    let rs = c.args.exchangers.now in
    let p = (get_or rs 0 c.index-exchangers-0.result).now.preference in
    let other = c.index-exchangers-place.result in
    let same : is_later p other.now ≡ false = grind (arith, nat_tests) in
    place_past (λ r. is_later p r.now) rs c.loop-place.place other c.loop-place-test.true c.index-exchangers-place.is same c.loop-place.invariant

pub returns-clause-run : goal.returns-clause-run
returns-clause-run c =
    let rs = c.args.exchangers.now in
    let first = c.index-exchangers-0.result in
    let p = (get_or rs 0 first).now.preference in
    run_found rs first p (length rs) c.requires.some c.index-exchangers-0.is (ap (λ (r : Bor Exchange). r.now.preference) (sym c.index-exchangers-0.is)) c.requires.rising
    (place_end (λ r. is_later p r.now) rs c.loop-place.place c.loop-place-test.false c.loop-place.auto.place-end c.loop-place.invariant)
