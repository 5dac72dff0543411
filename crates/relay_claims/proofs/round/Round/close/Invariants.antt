use Rattle.std.proofs.Common.{◌≤◌, length, vec_capacity}
use Rattle.relay_claims.proofs.Closings.{Ended}
use Rattle.relay_claims.proofs.round.Round.close.Given as goal

abbrev pub invariant-loop-bucket : goal.invariant-loop-bucket
invariant-loop-bucket l = record {
  room : length l.fn.self.keys ≤ vec_capacity l.places;
  ended : Ended l.fn.self l.fn.seat l.closed.words.items l.bucket l.places.items;
}
