use Rattle.std.proofs.Common.{◌≡◌, ◌-◌}
use Rattle.relay_claims.specs.Round.{piece_count}
use Rattle.relay_rounds.specs.Winners.{HasKept, HasClaimedAll}
use Rattle.relay_rounds.proofs.worker.Worker.work.Given as goal

abbrev pub invariant-loop-piece : goal.invariant-loop-piece
invariant-loop-piece g l = record {
  round : l.self.seat.round ≡ l.fn.self.seat.round;
  position : l.self.seat.position ≡ l.fn.self.seat.position;
  claimed : HasClaimedAll l.self.seat;
  kept : HasKept l.keys l.self.seat l.self.refused l.self.won.items;
}

abbrev pub decreases-loop-piece : goal.decreases-loop-piece
decreases-loop-piece g l = piece_count l.round - l.self.seat.seen
