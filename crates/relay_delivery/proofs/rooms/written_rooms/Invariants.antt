use Rattle.std.proofs.Common.{◌≡◌, map}
use Rattle.std.specs.Prelude.{All, IsTrue}
use Rattle.relay_delivery.specs.Rooms.{planned_in}
use Rattle.relay_delivery.proofs.rooms.written_rooms.Given as goal

abbrev pub invariant-loop-room : goal.invariant-loop-room
invariant-loop-room l = record {
  transactions : l.transactions.items ≡ map (planned_in l.placing) l.yielded;
  full : All (λ room. IsTrue room.is_full) l.yielded;
}
