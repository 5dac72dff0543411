use Rattle.std.proofs.Common.{◌≡◌, ◌≤◌, length, ◌-◌}
use Rattle.relay_claims.specs.View.{flight_at}
use Rattle.relay_claims.proofs.round.Round.scan.Given as goal

abbrev pub invariant-loop-next : goal.invariant-loop-next
invariant-loop-next l = record {
  own : (l.token.table_id ≡ l.fn.token.table_id) × (l.token.id ≡ l.fn.token.id);
  at : l.token.me ≡ (record l.fn.token.me.0 { flight = flight_at l.j l.head l.next l.token.me.0.flight.scanned }, l.fn.token.me.1);
  low : l.next ≤ length l.self.keys;
}

abbrev pub decreases-loop-next : goal.decreases-loop-next
decreases-loop-next l = length l.self.keys - length l.token.me.0.flight.scanned
