use Rattle.std.proofs.Common.{◌≡◌, length}
use Rattle.relay_claims.specs.Seat.{IsSeatOf}
use Rattle.round_tests.proofs.claims.draws.Given as goal

abbrev pub invariant-loop-i : goal.invariant-loop-i
invariant-loop-i l = record { own : IsSeatOf l.round l.seat; len : length l.pieces ≡ 4 }
