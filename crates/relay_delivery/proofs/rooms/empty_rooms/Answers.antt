use Rattle.std.proofs.Common.{ℕ, ◌+◌, List, length, take, refl, sym, ap, subst, arith}
use Rattle.relay_delivery.specs.Rooms.{IsEmptyRoomOf, AreRooms}
use Rattle.relay_delivery.specs.declared.rooms.Room.{Room}
use Rattle.relay_delivery.proofs.RoomFacts.{rooms_more}
use Rattle.relay_delivery.proofs.rooms.empty_rooms.Goals as goal

pub loop-cut-preserved : goal.loop-cut-preserved
loop-cut-preserved c =
    let IsRoom = IsEmptyRoomOf c.args.groups.now in
    let cuts = c.args.cuts.now in
    let i = c.loop-cut.cut-index in
    let cut = c.cut-item.result in
    let many = ap (λ (items : List ℕ). length items) c.as_slice-items.ensures in
    subst (λ (rooms : List Room). AreRooms IsRoom (take (i + 1) cuts) rooms) (sym c.in_ok-push.ensures.items)
    (rooms_more IsRoom cuts c.loop-cut.rooms.items i cut _ c.loop-cut-test.true c.cut-item.is c.loop-cut.invariant
    (record {
      group = refl;
      items = c.as_slice-items.ensures;
      empty = c.in_ok-with_capacity.ensures.items;
      takes = omega (arith, c.in_ok-with_capacity.ensures.exact, many);
    }))
