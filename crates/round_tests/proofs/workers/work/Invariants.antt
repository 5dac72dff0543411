use Rattle.std.proofs.Common.{◌≡◌, ◌-◌}
use Rattle.relay_claims.specs.Round.{piece_count}
use Rattle.relay_claims.specs.Work.{HasClaimedAll}
use Rattle.round_tests.proofs.workers.work.Given as goal

abbrev pub invariant-loop-piece : goal.invariant-loop-piece
invariant-loop-piece l = record {
  round : l.seat.round ≡ l.fn.seat.round;
  position : l.seat.position ≡ l.fn.seat.position;
  claimed : HasClaimedAll l.seat;
}

abbrev pub decreases-loop-piece : goal.decreases-loop-piece
decreases-loop-piece l = piece_count l.round - l.seat.seen
