use Rattle.std.proofs.Common.{rules, ◌≡◌, ℕ, ◌<◌, length, arith, sym, refl, subst, List, [], ◌∷◌}
use Rattle.std.proofs.lemmas.Result.{err_from_is_err_and}
use Rattle.relay_rounds.specs.Searches.{IsSearch, AreNewOf}
use Rattle.relay_rounds.proofs.Search.{search_begins, new_won, new_all, same_fault, closes}
use Rattle.relay_rounds.proofs.reaching.reach.Goals as goal

pub rounds-init : goal.rounds-init
rounds-init g c =
    let next = g.S.Steps.next_keys c.args.steps.now in
    let keys = c.in_ok-settled.ensures in
    let offered = c.in_ok-offered.ensures.items in
    record {
      search = rw (keys, offered) (search_begins next c.args.roots.now);
      below = rw offered c.requires.roots;
      within = rw keys (omega arith);
    }

-- the new keys of a round, where it hands on its lists by slices
new_here : (settled offered shown won won_shown : List ℕ) → shown ≡ offered → won_shown ≡ won → AreNewOf settled shown won → AreNewOf settled offered won_shown
new_here settled offered shown won won_shown a b n = subst (λ (xs : List ℕ). AreNewOf settled offered xs) (sym b) (subst (λ (xs : List ℕ). AreNewOf settled xs won) a n)

pub settle-requires-clause-below : goal.settle-requires-clause-below
settle-requires-clause-below g c κs within =
    let settled = c.rounds.settled in
    let new = c.deref-in-rounds.result.now in
    let n : AreNewOf settled c.rounds.offered.items new =
    new_here settled c.rounds.offered.items c.deref.result.now c.in_ok-new.new.items new c.deref.ensures.value c.deref-in-rounds.ensures.value c.in_ok-new.ensures in
    new_all (λ key. key < g.S.Steps.key_bound c.args.steps.now) settled c.rounds.offered.items new n c.rounds.invariant.below

pub settle-requires-clause-fresh : goal.settle-requires-clause-fresh
settle-requires-clause-fresh g c κs within =
    let settled = c.rounds.settled in
    let new = c.deref-in-rounds.result.now in
    let n : AreNewOf settled c.rounds.offered.items new =
    new_here settled c.rounds.offered.items c.deref.result.now c.in_ok-new.new.items new c.deref.ensures.value c.deref-in-rounds.ensures.value c.in_ok-new.ensures in
    λ key on old. ((n.members key).0 on).1 old

pub returns-in_err-settled-2-clause-refused : goal.returns-in_err-settled-2-clause-refused
returns-in_err-settled-2-clause-refused g c =
    let settled = c.rounds.settled in
    let new = c.deref-in-rounds.result.now in
    let n : AreNewOf settled c.rounds.offered.items new =
    new_here settled c.rounds.offered.items c.deref.result.now c.in_ok-new.new.items new c.deref.ensures.value c.deref-in-rounds.ensures.value c.in_ok-new.ensures in
    let p = err_from_is_err_and c.from_residual-in_err-settled-2.result c.from_residual-in_err-settled-2.ensures.1 in
    rw (p.1, p.2)
    (λ e. c.in_err-settled-2.ensures.refused (same_fault _ _ e) c.args.roots.now
    (new_won (g.S.Steps.next_keys c.args.steps.now) c.args.roots.now settled c.rounds.offered.items new n c.rounds.invariant.search))

pub rounds-preserved : goal.rounds-preserved
rounds-preserved g c =
    let settled = c.rounds.settled in
    let new = c.deref-in-rounds.result.now in
    let n : AreNewOf settled c.rounds.offered.items new =
    new_here settled c.rounds.offered.items c.deref.result.now c.in_ok-new.new.items new c.deref.ensures.value c.deref-in-rounds.ensures.value c.in_ok-new.ensures in
    let e = c.in_ok-settled-2.ensures.settles in
    record {
      search = e.search c.args.roots.now (new_won (g.S.Steps.next_keys c.args.steps.now) c.args.roots.now settled c.rounds.offered.items new n c.rounds.invariant.search);
      below = e.below;
      within = e.within;
    }

none_left : (xs : List ℕ) → length xs ≡ 0 → xs ≡ []
none_left [] e = refl
none_left (x ∷ xs) e = absurd (omega arith)

pub returns-clause-closure : goal.returns-clause-closure
returns-clause-closure g c =
    let next = g.S.Steps.next_keys c.args.steps.now in
    let settled = c.rounds.settled in
    let count : length c.rounds.offered.items ≡ 0 = search rules in
    let none : c.rounds.offered.items ≡ [] = none_left c.rounds.offered.items count in
    closes next c.args.roots.now settled c.in_ok-keys.keys.items
    (subst (λ (xs : List ℕ). IsSearch next c.args.roots.now settled xs) none c.rounds.invariant.search)
    c.in_ok-keys.ensures.ascending c.in_ok-keys.ensures.members

pub rounds-preserved-then-is_for_one : goal.rounds-preserved-then-is_for_one
rounds-preserved-then-is_for_one g c =
    let settled = c.rounds.settled in
    let search = subst (λ (xs : List ℕ). IsSearch (g.S.Steps.next_keys c.args.steps.now) c.args.roots.now settled xs) (sym c.as_slice.ensures.value) c.rounds.invariant.search in
    let e = c.in_ok-round.ensures.settles in
    rw c.swap.ensures.x_after (record { search = e.search c.args.roots.now search; below = e.below; within = e.within })
