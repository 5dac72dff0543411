use Rattle.std.proofs.Common.{◌≡◌, ◌≤◌, [], length, ◌-◌}
use Rattle.relay_claims.specs.View.{flight_at}
use Rattle.relay_claims.proofs.round.Round.settle.Given as goal

abbrev pub invariant-tries : goal.invariant-tries
invariant-tries g l = record {
  own : (l.token.table_id ≡ l.fn.token.table_id) × (l.token.id ≡ l.fn.token.id);
  at : l.token.me ≡ (record l.fn.token.me.0 { claim_tries = l.token.me.0.claim_tries; flight = flight_at l.j l.head l.head [] }, l.fn.token.me.1);
  low : l.head ≤ length l.self.keys;
}

abbrev pub decreases-tries : goal.decreases-tries
decreases-tries g l = length l.self.keys - l.token.me.0.claim_tries
