use Rattle.std.proofs.Common.{◌≡◌, ◌+◌, ◌-◌, ℕ}
use Rattle.relay_claims.specs.Counting.{times, span}
use Rattle.relay_claims.specs.Settled.{places_of}
use Rattle.round_tests.proofs.workers.claim_piece.Given as goal

abbrev pub invariant-loop-j : goal.invariant-loop-j
invariant-loop-j l = record {
  round : l.seat.round ≡ l.fn.seat.round;
  position : l.seat.position ≡ l.fn.seat.position;
  seen : l.seat.seen ≡ l.fn.seat.seen;
  drawn : l.seat.drawn ≡ l.fn.seat.drawn;
  left : (x : ℕ) → times x (places_of l.seat.settled) + times x (span l.j (l.end - l.j)) ≡ times x l.fn.seat.drawn;
}
