use Rattle.std.proofs.Common.{◌≡◌, ℕ, ◌+◌, ◌-◌, ◌≤◌, ◌∙◌, List, length, get_or, vec_capacity, vec_len, sym, ap, subst, arith, rules}
use Rattle.std.proofs.lemmas.Bool.{not-true, not-false}
use Rattle.std.proofs.lemmas.List.Sorted.{length_permutation}
use Rattle.relay_delivery.proofs.RankFacts.{AreSorted, IsGrown, parts_of, number_within, grown_first, grown_past, grown_tied, ranked_step, ranked_all}
use Rattle.relay_delivery.proofs.ranks.Ranks.of.Goals as goal
use Rattle.relay_delivery.proofs.ranks.Ranks.of.Goals.{then-index-eq0, then-index-eq0-via-then-index-eq0, then-index-eq0-via-else-index-eq0+then-ne, else-index-eq0+else-ne}

pub index_mut-requires : goal.index_mut-requires
index_mut-requires g c =
    let keys = c.args.keys.items in
    let sorted = c.deref-key-items.result.now in
    let s : AreSorted keys sorted =
    subst (λ xs. AreSorted keys xs) (sym c.deref-key-items.ensures.value)
    (record { numbered = c.requires.numbered; moved = c.in_ok-keys.ensures.permutation; up = c.in_ok-keys.ensures.sorted }) in
    let within = number_within keys sorted s c.loop-index.order.items c.loop-index.place_of.items c.loop-index.index c.loop-index.invariant.ranked c.key-item.result c.loop-index-test.true c.key-item.is in
    omega (arith, within, c.loop-index.place_of.ok.0)

pub overflow_cast-len : goal.overflow_cast-len
overflow_cast-len g c =
    let same : length c.in_ok-keys.keys.items ≡ length c.args.keys.items = length_permutation c.args.keys.items c.in_ok-keys.keys.items c.in_ok-keys.ensures.permutation in
    search rules

pub loop-index-preserved : goal.loop-index-preserved
loop-index-preserved g c =
    let keys = c.args.keys.items in
    let sorted = c.deref-key-items.result.now in
    let order = c.loop-index.order.items in
    let place_of = c.loop-index.place_of.items in
    let i = c.loop-index.index in
    let r = c.loop-index.invariant.ranked in
    let x = c.key-item.result in
    let inside = c.loop-index-test.true in
    let is = c.key-item.is in
    let next = c.if-index-eq0.order.items in
    let s : AreSorted keys sorted =
    subst (λ xs. AreSorted keys xs) (sym c.deref-key-items.ensures.value)
    (record { numbered = c.requires.numbered; moved = c.in_ok-keys.ensures.permutation; up = c.in_ok-keys.ensures.sorted }) in
    let Grown : List ℕ → Type 0 = λ xs. IsGrown (parts_of keys) order xs x i in
    let room : vec_len c.if-index-eq0.order + (length sorted - (i + 1)) ≤ vec_capacity c.if-index-eq0.order =
    elim c.if-index-eq0.branch [
      | then-index-eq0 w ↦
          (let is_next : c.if-index-eq0.order ≡ w.push_reserved.new.self = w.order-is in
          omega (arith, c.loop-index.invariant.room, inside, ap vec_len is_next, ap vec_capacity is_next, w.push_reserved.ensures.len, w.push_reserved.ensures.capacity))
      | else-index-eq0+else-ne w ↦
          (let is_next : c.if-index-eq0.order ≡ c.loop-index.order = w.order-is in
          omega (arith, c.loop-index.invariant.room, ap vec_len is_next, ap vec_capacity is_next))
    ] in
    let grown : Grown next =
    elim c.if-index-eq0.branch [
      | then-index-eq0 w ↦
          (let is_next : next ≡ w.push_reserved.new.self.items = ap (λ (v : _). v.items) w.order-is in
          subst Grown (sym (is_next ∙ w.push_reserved.ensures.items)) (elim w.then-index-eq0.branch [
            | then-index-eq0-via-then-index-eq0 v ↦ grown_first keys sorted s order place_of i r x inside is v.if-index-eq0.true
            | then-index-eq0-via-else-index-eq0+then-ne v ↦
                grown_past keys sorted s order place_of i r x inside is v.index.result.now (omega (arith, v.if-index-eq0.false))
                (v.index.ensures ∙ ap (λ xs. get_or xs (i - 1) v.index.result.now) (sym c.deref-key-items.ensures.value))
                (not-true _ (sym v.ne.ensures ∙ v.if-ne.true))
          ]))
      | else-index-eq0+else-ne w ↦
          (let is_next : next ≡ order = ap (λ (v : _). v.items) w.order-is in
          subst Grown (sym is_next)
          (grown_tied keys sorted s order place_of i r x inside is w.index.result.now (omega (arith, w.if-index-eq0.false))
          (w.index.ensures ∙ ap (λ xs. get_or xs (i - 1) w.index.result.now) (sym c.deref-key-items.ensures.value))
          (not-false _ (sym w.ne.ensures ∙ w.if-ne.false))))
    ] in
    record {
      ranked = ranked_step keys sorted s order place_of i r x inside is next c.len-in-loop-index.result (c.len-in-loop-index.ensures ∙ c.if-index-eq0.order.ok.0) grown;
      room = room;
    }

pub returns : goal.returns
returns g c =
    let keys = c.args.keys.items in
    let sorted = c.deref-key-items.result.now in
    let s : AreSorted keys sorted =
    subst (λ xs. AreSorted keys xs) (sym c.deref-key-items.ensures.value)
    (record { numbered = c.requires.numbered; moved = c.in_ok-keys.ensures.permutation; up = c.in_ok-keys.ensures.sorted }) in
    ranked_all keys sorted c.loop-index.order.items c.loop-index.place_of.items c.loop-index.index s c.loop-index.invariant.ranked c.loop-index-test.false
