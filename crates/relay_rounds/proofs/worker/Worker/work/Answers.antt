use Rattle.std.proofs.Common.{ap, sym, subst}
use Rattle.relay_rounds.specs.Winners.{IsClaiming}
use Rattle.relay_rounds.proofs.Winners.{drew_piece}
use Rattle.relay_rounds.proofs.worker.Worker.work.Goals as goal

pub claim_piece-requires-clause-left : goal.claim_piece-requires-clause-left
claim_piece-requires-clause-left g c =
    let e = c.in-Some.ensures in let p = c.in-Some.piece in
    subst (λ s. IsClaiming p.start p.end s) (sym c.reserve.ensures.seat)
    (drew_piece p.start p.end c.loop-piece.self.seat c.draw.new.seat c.loop-piece.invariant.claimed e.drawn (ap (λ u. u.settled) e.others) e.fresh)
