use Rattle.std.proofs.Common.{arith, ◌≡◌, ◌+◌, ◌-◌, ℕ, List, ap, ◌∙◌}
use Rattle.relay_claims.specs.Counting.{times, span}
use Rattle.relay_claims.specs.Settled.{places_of}
use Rattle.relay_claims.proofs.Counts.{times_append}
use Rattle.relay_claims.proofs.Work.{span_once}
use Rattle.round_tests.proofs.workers.work.Goals as goal

pub claim_piece-requires-clause-once : goal.claim_piece-requires-clause-once
claim_piece-requires-clause-once c x low = let e = c.in-Some.ensures in let p = c.in-Some.piece in let s = c.loop-piece.seat in
    let d : times x c.draw.new.seat.drawn ≡ times x s.drawn + times x (span p.start (p.end - p.start)) = ap (λ (l : List ℕ). times x l) e.drawn ∙ times_append x s.drawn (span p.start (p.end - p.start)) in
    let f = e.fresh x low in let o = span_once x p.start (p.end - p.start) in omega arith

pub claim_piece-requires-clause-left : goal.claim_piece-requires-clause-left
claim_piece-requires-clause-left c x = let e = c.in-Some.ensures in let p = c.in-Some.piece in let s = c.loop-piece.seat in
    let d : times x c.draw.new.seat.drawn ≡ times x s.drawn + times x (span p.start (p.end - p.start)) = ap (λ (l : List ℕ). times x l) e.drawn ∙ times_append x s.drawn (span p.start (p.end - p.start)) in
    let o : times x (places_of c.draw.new.seat.settled) ≡ times x (places_of s.settled) = ap (λ u. times x (places_of u.settled)) e.others in let h = c.loop-piece.invariant.claimed x in omega arith
