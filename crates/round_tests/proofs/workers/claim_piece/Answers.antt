use Rattle.std.proofs.Common.{arith, ◌≡◌, ◌+◌, ℕ, List, [], ◌∷◌, sym, ap, ◌∙◌, subst}
use Rattle.relay_claims.specs.Counting.{times, IsIn}
use Rattle.relay_claims.specs.Settled.{places_of}
use Rattle.relay_claims.specs.Claim.{holder_of}
use Rattle.relay_claims.proofs.Work.{span_more, to_claim, claims_one}
use Rattle.round_tests.proofs.workers.claim_piece.Goals as goal

pub claim-requires-clause-drawn : goal.claim-requires-clause-drawn
claim-requires-clause-drawn c = let inv = c.loop-j.invariant in let s = c.loop-j.seat in
    subst (λ (xs : List ℕ). IsIn c.loop-j.j xs) (sym inv.drawn) (to_claim c.loop-j.j c.args.end (places_of s.settled) c.args.seat.now.drawn c.loop-j-test.true inv.left (c.requires.once c.loop-j.j c.loop-j.auto.j)).0

pub claim-requires-clause-fresh : goal.claim-requires-clause-fresh
claim-requires-clause-fresh c = let inv = c.loop-j.invariant in let s = c.loop-j.seat in
    (to_claim c.loop-j.j c.args.end (places_of s.settled) c.args.seat.now.drawn c.loop-j-test.true inv.left (c.requires.once c.loop-j.j c.loop-j.auto.j)).1

pub loop-j-preserved : goal.loop-j-preserved
loop-j-preserved c = let inv = c.loop-j.invariant in let s = c.loop-j.seat in let e = c.claim.ensures in let t = c.claim.new.seat in record {
  round = ap (λ u. u.round) e.others ∙ inv.round;
  position = ap (λ u. u.position) e.others ∙ inv.position;
  seen = ap (λ u. u.seen) e.others ∙ inv.seen;
  drawn = ap (λ u. u.drawn) e.others ∙ inv.drawn;
  left = λ x. let j : ℕ = c.loop-j.j in let h = inv.left x in let m = span_more x j c.args.end c.loop-j-test.true in
      let o : times x (places_of t.settled) ≡ times x (places_of s.settled) + times x (j ∷ []) = ap (λ ps. times x (places_of ps)) e.settled ∙ claims_one x j (holder_of j c.claim.result) s.settled in omega arith;
}
