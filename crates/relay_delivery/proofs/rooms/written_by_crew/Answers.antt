use Rattle.std.proofs.Common.{◌≡◌, ◌∙◌, Vec, Global, map}
use Rattle.std.specs.Prelude.{All, IsTrue}
use Rattle.relay_wire.specs.declared.plan.Planned.{Planned}
use Rattle.relay_delivery.specs.Cuts.{transaction_of}
use Rattle.relay_delivery.specs.Rooms.{planned_in}
use Rattle.relay_delivery.specs.declared.rooms.Room.{Room}
use Rattle.relay_delivery.proofs.RoomFacts.{groups_in, rooms_written, if_ok_both}
use Rattle.relay_delivery.proofs.rooms.written_by_crew.Goals as goal

pub written_rooms-requires : goal.written_rooms-requires
written_rooms-requires g c = groups_in c.args.placing.now c.args.groups.now c.args.cuts.now c.in_ok-rooms.rooms.items c.requires c.in_ok-rooms.ensures

pub returns : goal.returns
returns g c =
    let p = c.args.placing.now in
    let groups = c.args.groups.now in
    let cuts = c.args.cuts.now in
    let rooms = c.in_ok-rooms.rooms.items in
    if_ok_both c.written_rooms.result (λ ts. All (λ (room : Room). IsTrue room.is_full) rooms) (λ (ts : Vec Planned Global). ts.items ≡ map (planned_in p) rooms) (λ (ts : Vec Planned Global). ts.items ≡ map (transaction_of p groups) cuts)
    (λ ts full is. is ∙ rooms_written p groups cuts rooms c.requires c.in_ok-rooms.ensures full) c.written_rooms.ensures.full c.written_rooms.ensures.written
