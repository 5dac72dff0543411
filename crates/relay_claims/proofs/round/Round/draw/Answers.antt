use Rattle.std.proofs.Common.{◌≡◌, ℕ, ◌+◌, ◌-◌, ◌*◌, ◌<◌, min, length, refl, arith, sym, ap, ◌∙◌, subst}
use Rattle.relay_claims.specs.Round.{Terms, pieces_of, piece_count}
use Rattle.relay_claims.proofs.Looks.{sees_ticket}
use Rattle.relay_claims.proofs.Pieces.{piece_start, tries_ticket, took_idle, took_others, took_drawn, took_fresh}
use Rattle.relay_claims.proofs.round.Round.draw.Goals as goal

pub load-ticket-requires : goal.load-ticket-requires
load-ticket-requires c =
    let r = c.self.inside in let w = c.self.invariant.words in let seat = c.seat in let k = r.table.shared.key in
    (ap (λ p. p.round.name) seat.view_is ∙ ap (λ t. t.name) (c.requires ∙ sym c.self.view_is), omega arith, sees_ticket k.keys.now k.heads k.cut r.table.shared.table_id.slots seat.inside.token.id seat.inside.token.me seat.invariant.live seat.invariant.no_claim)

pub compare_exchange-found-requires : goal.compare_exchange-found-requires
compare_exchange-found-requires c =
    let r = c.self.inside in let w = c.self.invariant.words in let token = c.loop-ticket.seat-inside.token in let inv = c.loop-ticket.invariant in let k = r.table.shared.key in
    let all : pieces_of (length k.keys.now) k.cut ≡ piece_count c.args.self.now = (λ i. pieces_of (length (c.self.invariant.keys_are i)) (c.self.invariant.cut_is i)) ∙ ap piece_count c.self.view_is in
    let test : c.loop-ticket.ticket < c.pieces-pieces.result = c.loop-ticket-test.true in let p = c.pieces-pieces.ensures in
    (ap (λ p. p.round.name) inv.same ∙ ap (λ t. t.name) (c.requires ∙ sym c.self.view_is), omega arith, tries_ticket k.keys.now k.heads k.cut r.table.shared.table_id.slots token.id token.me c.loop-ticket.ticket (c.loop-ticket.ticket + 1) inv.idle.live inv.idle.no_claim inv.seen refl (omega arith))

pub invariant_of-seat-then-found-ticket : goal.invariant_of-seat-then-found-ticket
invariant_of-seat-then-found-ticket c =
    let inv = c.loop-ticket.invariant in let me = c.loop-ticket.seat-inside.token.me in let told = c.compare_exchange-found.ensures.2 in let hit = told.1 c.if-found-ticket.true in
    let terms = ap (λ p. p.round) inv.same ∙ c.requires in let law = c.self.invariant in let cut = ap (λ t. t.cut) terms ∙ sym (ap (λ t. t.cut) c.self.view_is) in let all = ap piece_count terms in
    let test : c.loop-ticket.ticket < c.pieces-pieces.result = c.loop-ticket-test.true in let p = c.pieces-pieces.ensures in let seen = inv.seen in let some = law.some_cut in
    took_idle me c.compare_exchange-found.new.seat.me inv.idle hit.0 (omega arith) (omega arith)

pub overflow_mul-start : goal.overflow_mul-start
overflow_mul-start c =
    let r = c.self.inside in let some = c.self.invariant.some_cut in let all : pieces_of (length r.keys.now) r.cut ≡ piece_count c.args.self.now = ap piece_count c.self.view_is in
    let test = c.loop-ticket-test.true in let p = c.pieces-pieces.ensures in let low : c.loop-ticket.ticket < pieces_of (length r.keys.now) r.cut = omega arith in
    let start = piece_start (length r.keys.now) r.cut c.loop-ticket.ticket some low in
    omega arith

pub overflow_sub-self-inside : goal.overflow_sub-self-inside
overflow_sub-self-inside c =
    let r = c.self.inside in let some = c.self.invariant.some_cut in let all : pieces_of (length r.keys.now) r.cut ≡ piece_count c.args.self.now = ap piece_count c.self.view_is in
    let test = c.loop-ticket-test.true in let p = c.pieces-pieces.ensures in let low : c.loop-ticket.ticket < pieces_of (length r.keys.now) r.cut = omega arith in
    let start = piece_start (length r.keys.now) r.cut c.loop-ticket.ticket some low in
    omega arith

pub overflow_add-result : goal.overflow_add-result
overflow_add-result c =
    let r = c.self.inside in let some = c.self.invariant.some_cut in let all : pieces_of (length r.keys.now) r.cut ≡ piece_count c.args.self.now = ap piece_count c.self.view_is in
    let test = c.loop-ticket-test.true in let p = c.pieces-pieces.ensures in let low : c.loop-ticket.ticket < pieces_of (length r.keys.now) r.cut = omega arith in
    let start = piece_start (length r.keys.now) r.cut c.loop-ticket.ticket some low in
    omega arith

pub returns-then-found-ticket-clause-others : goal.returns-then-found-ticket-clause-others
returns-then-found-ticket-clause-others c =
    let told = c.compare_exchange-found.ensures in let hit = told.2.1 c.if-found-ticket.true in
    took_others _ _ c.loop-ticket.seat-inside.token.me c.compare_exchange-found.new.seat.me c.args.seat.now told.0 hit.0 c.loop-ticket.invariant.same

pub returns-then-found-ticket-clause-piece : goal.returns-then-found-ticket-clause-piece
returns-then-found-ticket-clause-piece c =
    let r = c.self.inside in let some = c.self.invariant.some_cut in let all : pieces_of (length r.keys.now) r.cut ≡ piece_count c.args.self.now = ap piece_count c.self.view_is in
    let test = c.loop-ticket-test.true in let p = c.pieces-pieces.ensures in let low : c.loop-ticket.ticket < pieces_of (length r.keys.now) r.cut = omega arith in
    let start = piece_start (length r.keys.now) r.cut c.loop-ticket.ticket some low in
    let inv = c.loop-ticket.invariant in let hit = c.compare_exchange-found.ensures.2.1 c.if-found-ticket.true in let t : ℕ = c.loop-ticket.ticket in let z : ℕ = t * r.cut in let view = c.self.view_is in (
      t,
      (let later = inv.later in let seen = inv.seen in omega arith),
      omega arith,
      ap (λ m. m.0.seen) hit.0 ∙ ap (λ (n : ℕ). n + 1) (sym inv.seen),
      ap (λ (terms : Terms). t * terms.cut) view,
      ap (λ (n : ℕ). z + n) (c.min-len.ensures ∙ ap (λ (terms : Terms). min terms.cut (length terms.keys - z)) view),
      subst (λ (terms : Terms). z < length terms.keys) view start,
    )

pub returns-then-found-ticket-clause-drawn : goal.returns-then-found-ticket-clause-drawn
returns-then-found-ticket-clause-drawn c =
    let r = c.self.inside in let inv = c.loop-ticket.invariant in let terms = ap (λ p. p.round) inv.same ∙ c.requires ∙ sym c.self.view_is in let hit = c.compare_exchange-found.ensures.2.1 c.if-found-ticket.true in
    took_drawn c.loop-ticket.seat-inside.token.me c.compare_exchange-found.new.seat.me c.args.seat.now.drawn r.keys.now r.cut c.loop-ticket.ticket c.min-len.result hit.0 (ap (λ p. p.drawn) inv.same) (ap (λ t. t.keys) terms) (ap (λ t. t.cut) terms) (sym inv.seen) c.min-len.ensures

pub returns-then-found-ticket-clause-fresh : goal.returns-then-found-ticket-clause-fresh
returns-then-found-ticket-clause-fresh c =
    let r = c.self.inside in let inv = c.loop-ticket.invariant in let terms = ap (λ p. p.round) inv.same ∙ c.requires ∙ sym c.self.view_is in let hit = c.compare_exchange-found.ensures.2.1 c.if-found-ticket.true in
    took_fresh c.loop-ticket.seat-inside.token.me c.args.seat.now.drawn r.cut c.loop-ticket.ticket hit.1 (ap (λ p. p.drawn) inv.same) (ap (λ t. t.cut) terms) (sym inv.seen)
