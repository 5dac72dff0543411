use Rattle.std.proofs.Common.{◌≡◌, ◌<◌, List, length, slice_index_or, sym, subst}
use Rattle.std.specs.Prelude.{All}
use Rattle.relay_delivery.specs.declared.routed.Routed.{Routed}
use Rattle.relay_delivery.specs.declared.rooms.Room.{Room}
use Rattle.relay_delivery.proofs.RoomFacts.{room_empty}
use Rattle.relay_delivery.proofs.rooms.filled_rooms.Goals as goal

pub for_each_mut-requires-clause-accepts : goal.for_each_mut-requires-clause-accepts
for_each_mut-requires-clause-accepts g c κs within i p inside is =
    let rooms = c.in_ok-rooms.rooms.items in
    let value = c.as_mut_slice.ensures.value in
    let inside_rooms : i < length rooms = subst (λ (rs : List Room). i < length rs) value inside in
    let is_room : p.now ≡ slice_index_or rooms i p.now = subst (λ (rs : List Room). p.now ≡ slice_index_or rs i p.now) value is in
    let ready = room_empty c.args.placing.now c.args.groups.now c.args.cuts.now rooms c.requires c.in_ok-rooms.ensures i p.now inside_rooms is_room in (
      ready.0,
      ready.1,
      subst (λ (rs : List Routed). All (λ n. n < length rs) p.now.items.now) (sym c.as_slice-recipients.ensures.value) ready.2,
    )
