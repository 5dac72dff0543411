use Rattle.std.proofs.Common.{arith, ℕ, ◌+◌, List, length, slice_index, vec_capacity, sym, ap, ◌∙◌, subst}
use Rattle.std.proofs.lemmas.List.Sorted.{IsNonDecreasingBy-from_sort}
use Rattle.relay_claims.specs.Closing.{IsChainWithRoom, AddsChain}
use Rattle.relay_claims.proofs.Closings.{Ended, get_of, ended_first, ended_room, ended_next, ended_last}
use Rattle.relay_claims.proofs.round.Round.close.Goals as goal

pub loop-bucket-init : goal.loop-bucket-init
loop-bucket-init c = let r = c.self in let k = r.inside.table.shared.key in let law = r.invariant in let s = c.close_with-closed.ensures.values.2 in let round = c.requires in let n = ap (λ t. length t.keys) r.view_is in record {
  room = let e = c.in-Ok.ensures in let cap = e.capacity in omega arith;
  ended = subst (λ (items : List ℕ). Ended c.args.self c.args.seat c.close_with-closed.result.words.items 0 items) (sym c.in-Ok.ensures.items)
      (ended_first c.args.self c.args.seat c.close_with-closed.result.words.items k.keys.now k.heads k.cut c.seat.inside.token.id c.seat.inside.token.me.0 c.seat.inside.token.table_id s.0
      (law.keys_are ∙ ap (λ t. t.keys) r.view_is) (law.heads_are ∙ ap (λ t. t.heads) r.view_is) (law.cut_is ∙ ap (λ t. t.cut) r.view_is) (λ i. record (c.seat.view_is i) { round = sym round i })
      c.seat.invariant.live s.1.0 s.1.1 s.2);
}

pub push_chain-requires-clause-chain : goal.push_chain-requires-clause-chain
push_chain-requires-clause-chain c = let heads = ap (λ t. t.heads) c.self.view_is in let words : List ℕ = c.close_with-closed.result.words.items in let b : ℕ = c.loop-bucket.bucket in let p = c.loop-bucket.places in let test = c.loop-bucket-test.true in
    let first = sym (get_of words (1 + b) c.word.result c.word.ensures) in
    subst (λ (h : ℕ). IsChainWithRoom h words c.word.result (length p.items) (vec_capacity p)) (sym heads)
    (subst (λ (w : ℕ). IsChainWithRoom c.args.self.heads words w (length p.items) (vec_capacity p)) first
    (ended_room c.args.self c.args.seat words b (vec_capacity p) p.items (omega arith) c.loop-bucket.invariant.room c.loop-bucket.invariant.ended))

pub loop-bucket-preserved : goal.loop-bucket-preserved
loop-bucket-preserved c = let heads = ap (λ t. t.heads) c.self.view_is in let words : List ℕ = c.close_with-closed.result.words.items in let b : ℕ = c.loop-bucket.bucket in let p = c.loop-bucket.places in let test = c.loop-bucket-test.true in
    let first = get_of words (1 + b) c.word.result c.word.ensures in let e = c.push_chain.ensures in let more : List ℕ = c.push_chain.new.places.items in
    record {
      room = let r = e.room in let i = c.loop-bucket.invariant.room in omega arith;
      ended = ended_next c.args.self c.args.seat words b p.items more (omega arith) c.loop-bucket.invariant.ended
          (subst (λ (h : ℕ). AddsChain h words (slice_index words (1 + b)) p.items more) heads (subst (λ (w : ℕ). AddsChain c.self.inside.heads words w p.items more) first e.chain));
    }

pub returns-clause-ok : goal.returns-clause-ok
returns-clause-ok c = let heads = ap (λ t. t.heads) c.self.view_is in let test = c.loop-bucket-test.false in let end = c.loop-bucket.auto.bucket-end in
    ended_last c.args.self c.args.seat c.close_with-closed.result.words.items c.loop-bucket.bucket c.loop-bucket.places.items c.sort_unstable.new.self.items (omega arith) c.loop-bucket.invariant.ended
    c.sort_unstable.ensures.permutation (IsNonDecreasingBy-from_sort (λ (x : ℕ). x) c.sort_unstable.new.self.items c.sort_unstable.ensures.sorted)
