use Rattle.std.proofs.Common.{◌≡◌, ℕ, ◌+◌, ◌%◌, slice_index, length, arith, sym, ap, ◌∙◌, subst, mod-lt}
use Rattle.relay_claims.specs.Counting.{times, IsIn}
use Rattle.relay_claims.specs.Round.{bucket_of, head_word, link_word}
use Rattle.relay_claims.specs.View.{claimed}
use Rattle.relay_claims.proofs.Looks.{sees_head}
use Rattle.relay_claims.proofs.Puts.{stores_link, tries_head}
use Rattle.relay_claims.proofs.round.Round.settle.Goals as goal

pub load-head-requires : goal.load-head-requires
load-head-requires g c =
    let r = c.self.inside in let law = c.self.invariant in let w = law.words in let t = c.args.token.now in let j : ℕ = c.args.j in let k = r.table.shared.key in let aim = c.requires.aim in
    let low = mod-lt (slice_index r.keys.now j) law.some_head in (
      c.requires.own.0 ∙ sym (ap (λ t. t.name) c.self.view_is),
      omega arith,
      sees_head k.keys.now k.heads k.cut r.table.shared.table_id.slots t.id t.me g.J.Aim.place (1 + slice_index r.keys.now j % r.heads) c.requires.idle.0
          (subst (λ (n : ℕ). IsIn n t.me.0.drawn) aim c.requires.mine.1) (subst (λ (n : ℕ). times n (claimed t.me.0) ≡ 0) aim c.requires.mine.2)
          (let a = sym law.keys_are in let b = sym law.heads_are in λ i. 1 + slice_index (a i) (aim i) % (b i)),
    )

pub store-requires : goal.store-requires
store-requires g c =
    let r = c.self.inside in let law = c.self.invariant in let w = law.words in let t = c.scan.new.token in let j : ℕ = c.args.j in let k = r.table.shared.key in
    let inv = c.tries.invariant in let at = c.in_default.ensures.none in let own = c.scan.ensures.own in let mine = c.requires.mine in let n = ap (λ t. length t.keys) c.self.view_is in (
      own.0 ∙ inv.own.0 ∙ c.requires.own.0 ∙ sym (ap (λ t. t.name) c.self.view_is),
      omega arith,
      stores_link k.keys.now k.heads k.cut r.table.shared.table_id.slots t.id t.me (1 + r.heads + j) c.tries.head
          (ap (λ m. m.0.spent) at ∙ ap (λ m. m.0.spent) inv.at ∙ c.requires.idle.0) (ap (λ m. m.0.flight.busy) at) (ap (λ m. m.0.flight.next) at) (sym (ap (λ m. m.0.flight.expected) at))
          (let a = sym law.heads_are in let b = sym (ap (λ m. m.0.flight.place) at) in λ i. link_word (a i) (b i)),
    )

pub compare_exchange-found-requires : goal.compare_exchange-found-requires
compare_exchange-found-requires g c =
    let r = c.self.inside in let law = c.self.invariant in let w = law.words in let t = c.store.new.seat in let j : ℕ = c.args.j in let k = r.table.shared.key in
    let low = mod-lt (slice_index r.keys.now j) law.some_head in
    let inv = c.tries.invariant in let at = c.in_default.ensures.none in let own = c.scan.ensures.own in let put = c.store.ensures in
    let place : t.me.0.flight.place ≡ j = ap (λ m. m.0.flight.place) put.2 ∙ ap (λ m. m.0.flight.place) at in (
      put.0 ∙ own.0 ∙ inv.own.0 ∙ c.requires.own.0 ∙ sym (ap (λ t. t.name) c.self.view_is),
      omega arith,
      tries_head k.keys.now k.heads k.cut r.table.shared.table_id.slots t.id t.me (1 + slice_index r.keys.now j % r.heads) c.tries.head (j + 1)
          (ap (λ m. m.0.spent) put.2 ∙ ap (λ m. m.0.spent) at ∙ ap (λ m. m.0.spent) inv.at ∙ c.requires.idle.0) (ap (λ m. m.0.flight.busy) put.2 ∙ ap (λ m. m.0.flight.busy) at) (ap (λ m. m.0.flight.stored) put.2)
          (sym (ap (λ m. m.0.flight.expected) put.2 ∙ ap (λ m. m.0.flight.expected) at)) (ap (λ (n : ℕ). n + 1) (sym place))
          (let a = sym law.keys_are in let b = sym law.heads_are in let p = sym place in λ i. head_word (bucket_of (a i) (b i) (p i))),
    )
