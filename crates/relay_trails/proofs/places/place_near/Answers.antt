use Rattle.std.proofs.Common.{ℕ, Ok, Err, rules, subst}
use Rattle.std.specs.List.Sorted.{IsBinarySearchResult}
use Rattle.std.specs.Ordering.{nat_cmp}
use Rattle.std.proofs.lemmas.List.Sorted.{answers_always}
use Rattle.relay_pairs.specs.Pairs.{key_of}
use Rattle.relay_trails.proofs.Placing.{found_at, not_missing}
use Rattle.relay_trails.proofs.places.place_near.Goals as goal

pub unreachable-requires : goal.unreachable-requires
unreachable-requires c =
    let by_key = c.in-Err.ensures.position key_of (answers_always _ _ _ (λ f a r g called. search rules)) in
    not_missing c.args.pairs.now c.requires.ascending c.requires.nodes c.args.pair c.requires.listed c.in-Err.field-0
    (subst (λ (k : ℕ). IsBinarySearchResult (λ p. nat_cmp (key_of p) k) c.args.pairs.now (Err c.in-Err.field-0)) c.key.ensures by_key)

pub returns-2 : goal.returns-2
returns-2 c =
    let by_key = c.in-Ok.ensures.position key_of (answers_always _ _ _ (λ f a r g called. search rules)) in
    found_at c.args.pairs.now c.requires.ascending c.requires.nodes c.args.pair c.requires.listed c.in-Ok.place c.in-Ok.ensures.bound
    (subst (λ (k : ℕ). IsBinarySearchResult (λ p. nat_cmp (key_of p) k) c.args.pairs.now (Ok c.in-Ok.place)) c.key.ensures by_key)
