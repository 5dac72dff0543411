use Rattle.std.proofs.Common.{arith, ◌≡◌, ◌+◌, ◌<◌, ◌≤◌, ℕ, List, [], ◌++◌, length, ap, ◌∙◌}
use Rattle.std.specs.Prelude.{flat_map}
use Rattle.relay_rounds.proofs.Search.{settles_all, too_many_won, nexts_all}
use Rattle.relay_rounds.proofs.settling.settle.Goals as goal

pub returns-then-new-limit-clause-refused : goal.returns-then-new-limit-clause-refused
returns-then-new-limit-clause-refused g c _ roots s =
    let more : c.args.limit < length c.args.settled + length c.args.new.now = (let t = c.if-new-limit.true in let e = c.len.ensures.count in omega arith) in
    too_many_won (g.S.Steps.next_keys c.args.steps.now) 0 c.args.limit c.args.settled c.args.new.now [] c.len.ensures.distinct c.requires.distinct c.requires.fresh more roots s

pub returns-clause-settles : goal.returns-clause-settles
returns-clause-settles g c =
    let here = g.met.S.Steps g.world.𝓛 g.world.𝓜 g.world.𝓡 ((λ s x. x), (λ x. x), (λ x. x), λ x. x) in
    let next = g.S.Steps.next_keys c.args.steps.now in
    let bound : ℕ = g.S.Steps.key_bound c.args.steps.now in
    let new = c.args.new.now in
    let offered : c.next_keys.new.next.items ≡ flat_map next new = c.in_ok-next_keys.ensures ∙ ap (λ (xs : List ℕ). xs ++ flat_map next new) c.requires.none in
    let room : length c.args.settled + length new ≤ c.args.limit = (let t = c.if-new-limit.false in let e = c.len.ensures.count in let within = c.requires.within in omega arith) in
    rw offered (settles_all next bound c.args.limit c.args.settled new c.in_ok-now.now c.len.ensures.distinct c.requires.distinct c.requires.fresh c.in_ok-now.ensures room
    (nexts_all (λ key. key < bound) next new c.requires.below (here.stays_below c.args.steps.now)))
