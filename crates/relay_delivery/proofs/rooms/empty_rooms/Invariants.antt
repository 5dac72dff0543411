use Rattle.std.proofs.Common.{take}
use Rattle.relay_delivery.specs.Rooms.{IsEmptyRoomOf, AreRooms}
use Rattle.relay_delivery.proofs.rooms.empty_rooms.Given as goal

abbrev pub invariant-loop-cut : goal.invariant-loop-cut
invariant-loop-cut l = AreRooms (IsEmptyRoomOf l.groups) (take l.cut-index l.cuts) l.rooms.items
