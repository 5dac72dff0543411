use Rattle.std.proofs.Common.{◌<◌, ℕ, length, get_or, arith}
use Rattle.std.proofs.lemmas.List.{get_or_default}
use Rattle.std.proofs.lemmas.List.Elements.{All-get_or}
use Rattle.std.proofs.lemmas.Result.{err_from_is_err_and}
use Rattle.relay_rounds.proofs.Search.{partly_none, partly_more, partly_full, partly_all, same_fault}
use Rattle.relay_rounds.proofs.alone.Alone.round.Goals as goal

pub loop-place-init : goal.loop-place-init
loop-place-init g c =
    let next = g.S.Steps.next_keys c.args.self.now.steps.now in
    let bound : ℕ = g.S.Steps.key_bound c.args.self.now.steps.now in
    rw c.requires.none (partly_none next bound c.args.self.now.limit c.args.settled.now c.args.keys.now c.requires.within)

pub settle_one-requires-clause-within : goal.settle_one-requires-clause-within
settle_one-requires-clause-within g c κs within = c.loop-place.invariant.within

pub returns-in_err-settle_one-clause-refused : goal.returns-in_err-settle_one-clause-refused
returns-in_err-settle_one-clause-refused g c =
    let next = g.S.Steps.next_keys c.args.self.now.steps.now in
    let bound : ℕ = g.S.Steps.key_bound c.args.self.now.steps.now in
    let keys = c.args.keys.now in
    let met : ℕ = c.loop-place.place in
    let key : ℕ = get_or keys met 0 in
    let short : met < length keys = c.loop-place-test.true in
    let p = err_from_is_err_and c.from_residual.result c.from_residual.ensures.1 in
    rw (p.1, p.2)
    (λ e. let full = c.in_err-settle_one.ensures.refused (same_fault _ _ e) in
    partly_full next bound c.args.self.now.limit c.args.settled.now keys c.loop-place.settled c.loop-place.offered.items met key short (get_or_default keys met 0 key short) c.loop-place.invariant full.0 full.1)

pub loop-place-preserved : goal.loop-place-preserved
loop-place-preserved g c =
    let here = g.met.S.Steps g.world.𝓛 g.world.𝓜 g.world.𝓡 ((λ s x. x), (λ x. x), (λ x. x), λ x. x) in
    let next = g.S.Steps.next_keys c.args.self.now.steps.now in
    let bound : ℕ = g.S.Steps.key_bound c.args.self.now.steps.now in
    let keys = c.args.keys.now in
    let met : ℕ = c.loop-place.place in
    let key : ℕ = get_or keys met 0 in
    let short : met < length keys = c.loop-place-test.true in
    partly_more next bound c.args.self.now.limit c.args.settled.now keys c.loop-place.settled c.loop-place.offered.items met key short (get_or_default keys met 0 key short) c.loop-place.invariant
    c.settle_one.new.settled c.settle_one.new.offered.items c.in_ok-settle_one.ensures.met
    (here.stays_below c.args.self.now.steps.now key (All-get_or (λ k. k < bound) keys met 0 short c.requires.below))

pub returns-clause-settles : goal.returns-clause-settles
returns-clause-settles g c =
    let next = g.S.Steps.next_keys c.args.self.now.steps.now in
    let bound : ℕ = g.S.Steps.key_bound c.args.self.now.steps.now in
    let test = c.loop-place-test.false in
    partly_all next bound c.args.self.now.limit c.args.settled.now c.args.keys.now c.loop-place.settled c.loop-place.offered.items c.loop-place.place (omega (arith, test)) c.loop-place.invariant
