use Rattle.std.proofs.Common.{◌≡◌, ◌+◌, ◌-◌, ◌≤◌, false}
use Rattle.std.specs.Prelude.{vec_len, vec_capacity}
use Rattle.relay_rounds.specs.Winners.{HasKept, IsClaiming}
use Rattle.relay_rounds.proofs.worker.Worker.claim_piece.Given as goal

abbrev pub invariant-loop-j : goal.invariant-loop-j
invariant-loop-j l = record {
  round : l.self.seat.round ≡ l.fn.self.seat.round;
  position : l.self.seat.position ≡ l.fn.self.seat.position;
  seen : l.self.seat.seen ≡ l.fn.self.seat.seen;
  claiming : IsClaiming l.j l.end l.self.seat;
  kept : HasKept l.keys l.self.seat l.self.refused l.self.won.items;
  room : l.self.refused ≡ false → vec_len l.self.won + (l.end - l.j) ≤ vec_capacity l.self.won;
}
