use Rattle.std.proofs.Common.{◌≡◌, ◌-◌, vec_len, vec_capacity}
use Rattle.relay_claims.proofs.Closings.{Rests}
use Rattle.relay_claims.proofs.round.closing.push_chain.Given as goal

abbrev pub invariant-loop-next : goal.invariant-loop-next
invariant-loop-next l = record {
  rests : Rests l.heads l.closed.words.items l.first l.next l.fn.places.items l.places.items (vec_capacity l.places);
  room : vec_capacity l.places ≡ vec_capacity l.fn.places;
}

abbrev pub decreases-loop-next : goal.decreases-loop-next
decreases-loop-next l = vec_capacity l.places - vec_len l.places
