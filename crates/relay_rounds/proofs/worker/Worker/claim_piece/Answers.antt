use Rattle.std.proofs.Common.{arith, ◌≡◌, ◌+◌, ◌-◌, ◌≤◌, false, sym, ap, ◌∙◌, subst}
use Rattle.std.specs.Prelude.{vec_len, vec_capacity}
use Rattle.relay_rounds.specs.Winners.{HasKept, IsClaiming}
use Rattle.relay_rounds.proofs.Winners.{claimed_one, claimed_piece, drawn_place}
use Rattle.relay_rounds.proofs.worker.Worker.claim_piece.Goals as goal

pub claim-requires-clause-drawn : goal.claim-requires-clause-drawn
claim-requires-clause-drawn c = drawn_place c.loop-j.j c.args.end c.loop-j.self.seat c.loop-j-test.true c.loop-j.invariant.claiming

pub loop-j-preserved : goal.loop-j-preserved
loop-j-preserved c =
    let inv = c.loop-j.invariant in
    let keys = c.args.keys.now in
    let j = c.loop-j.j in
    let end = c.args.end in
    let e = c.claim.ensures in
    record {
      round = ap (λ u. u.round) e.others ∙ inv.round;
      position = ap (λ u. u.position) e.others ∙ inv.position;
      seen = ap (λ u. u.seen) e.others ∙ inv.seen;
      claiming = claimed_one j end c.loop-j.self.seat c.claim.new.self.seat c.loop-j-test.true inv.claiming (ap (λ u. u.drawn) e.others) e.places;
      kept = e.kept;
      room = λ r. let h = inv.room (sym e.refused ∙ r) in let o = e.room r in let t = c.loop-j-test.true in omega arith;
    }

pub returns-clause-claimed : goal.returns-clause-claimed
returns-clause-claimed c = claimed_piece c.loop-j.j c.args.end c.loop-j.self.seat (let t = c.loop-j-test.false in omega arith) c.loop-j.invariant.claiming
