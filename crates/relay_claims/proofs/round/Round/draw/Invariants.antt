use Rattle.std.proofs.Common.{◌-◌, ◌≡◌, ◌≤◌}
use Rattle.relay_claims.specs.Round.{piece_count}
use Rattle.relay_claims.specs.Seat.{shown, IsIdle}
use Rattle.relay_claims.proofs.round.Round.draw.Given as goal

abbrev pub invariant-loop-ticket : goal.invariant-loop-ticket
invariant-loop-ticket l = let v = l.seat-inside.token.me.0 in record {
  same : shown l.seat-inside.token.table_id v ≡ record l.fn.seat { seen = v.seen; draw_tries = v.draw_tries };
  idle : IsIdle l.seat-inside.token.me;
  seen : l.ticket ≡ v.seen;
  later : l.fn.seat.seen ≤ v.seen;
  low : l.ticket ≤ piece_count l.self;
  tries : v.draw_tries ≤ l.ticket;
}

abbrev pub decreases-loop-ticket : goal.decreases-loop-ticket
decreases-loop-ticket l = l.pieces - l.ticket
