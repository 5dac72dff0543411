use Rattle.std.proofs.Common.{arith, refl, sym, subst, ◌∙◌, List, ℕ, ◌+◌, ◌-◌, vec_capacity}
use Rattle.relay_claims.proofs.Closings.{Rests, get_of, rests_first, rests_last, rests_room, rests_next}
use Rattle.relay_claims.proofs.round.closing.push_chain.Goals as goal

pub loop-next-init : goal.loop-next-init
loop-next-init c = record { rests = rests_first c.args.heads c.args.closed.now.words.items c.args.first c.args.places.now.items (vec_capacity c.args.places.now) c.requires.chain; room = refl }

pub push_reserved-requires : goal.push_reserved-requires
push_reserved-requires c = let p = c.loop-next.places in let r = rests_room c.args.heads c.args.closed.now.words.items c.args.first c.args.places.now.items p.items (vec_capacity p) c.loop-next.next c.loop-next-test.true c.loop-next.invariant.rests in let ok = p.ok in omega arith

pub overflow_add-heads-in-loop-next : goal.overflow_add-heads-in-loop-next
overflow_add-heads-in-loop-next c = let p = c.loop-next.places in let w = c.args.closed.now.words in let r = rests_room c.args.heads w.items c.args.first c.args.places.now.items p.items (vec_capacity p) c.loop-next.next c.loop-next-test.true c.loop-next.invariant.rests in let ok = w.ok.0 in let small = w.small in omega arith

pub overflow_add-heads : goal.overflow_add-heads
overflow_add-heads c = let p = c.loop-next.places in let w = c.args.closed.now.words in let r = rests_room c.args.heads w.items c.args.first c.args.places.now.items p.items (vec_capacity p) c.loop-next.next c.loop-next-test.true c.loop-next.invariant.rests in let ok = w.ok.0 in let small = w.small in omega arith

pub word-next-requires : goal.word-next-requires
word-next-requires c = let p = c.loop-next.places in let w = c.args.closed.now.words in let r = rests_room c.args.heads w.items c.args.first c.args.places.now.items p.items (vec_capacity p) c.loop-next.next c.loop-next-test.true c.loop-next.invariant.rests in let ok = w.ok.0 in (omega arith, c.requires.full)

pub loop-next-preserved : goal.loop-next-preserved
loop-next-preserved c = let p = c.loop-next.places in let w = c.args.closed.now.words in let next : ℕ = c.loop-next.next in let e = c.push_reserved.ensures in let r : ℕ = c.word-next.result in
    let more = rests_next c.args.heads w.items c.args.first c.args.places.now.items p.items (vec_capacity p) next r c.loop-next-test.true (get_of w.items (1 + c.args.heads + (next - 1)) r c.word-next.ensures) c.loop-next.invariant.rests in record {
      rests = (let xs = sym e.items in let n = sym e.capacity in subst (λ (room : ℕ). Rests c.args.heads w.items c.args.first r c.args.places.now.items c.push_reserved.new.self.items room) n (subst (λ (items : List ℕ). Rests c.args.heads w.items c.args.first r c.args.places.now.items items (vec_capacity p)) xs more));
      room = e.capacity ∙ c.loop-next.invariant.room;
    }

pub returns-clause-chain : goal.returns-clause-chain
returns-clause-chain c = let inv = c.loop-next.invariant in rests_last c.args.heads c.args.closed.now.words.items c.args.first c.args.places.now.items c.loop-next.places.items (vec_capacity c.loop-next.places) c.loop-next.next c.loop-next-test.false inv.rests
