use Rattle.std.proofs.Common.{◌≡◌, [], ◌∷◌, ◌++◌, take, drop, refl, sym, ap, ◌∙◌, arith}
use Rattle.relay_rings.specs.Walks.{walk_rest}
use Rattle.relay_rings.proofs.CutLemmas.{turn_some, turn_takes}
use Rattle.relay_rings.proofs.batching.next_items.Goals as goal

pub unwrap-item-requires : goal.unwrap-item-requires
unwrap-item-requires c = turn_some (walk_rest c.loop.walk) c.next.result (walk_rest c.next.new.self) (walk_rest c.args.walk.now) c.loop.counter c.args.count c.next.ensures.steps c.loop.invariant.rest c.loop-test.true c.requires

pub loop-preserved : goal.loop-preserved
loop-preserved c =
    let x = c.unwrap-item.result in
    let t = turn_takes (walk_rest c.loop.walk) c.next.result (walk_rest c.next.new.self) (walk_rest c.args.walk.now) c.loop.counter x c.next.ensures.steps c.unwrap-item.ensures c.loop.invariant.rest in
    record {
      taken = c.in_ok-push.ensures.items ∙ ap (λ xs. xs ++ x ∷ []) c.loop.invariant.taken ∙ sym t.0;
      rest = t.1;
    }

pub loop-init : goal.loop-init
loop-init c = record { taken = c.in_ok-items.ensures.items; rest = refl }

pub returns-clause-taken : goal.returns-clause-taken
returns-clause-taken c =
    let all : c.loop.counter ≡ c.args.count = omega arith in
    c.loop.invariant.taken ∙ ap (λ n. take n (walk_rest c.args.walk.now)) all

pub returns-clause-rest : goal.returns-clause-rest
returns-clause-rest c =
    let all : c.loop.counter ≡ c.args.count = omega arith in
    c.loop.invariant.rest ∙ ap (λ n. drop n (walk_rest c.args.walk.now)) all
