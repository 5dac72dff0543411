use Rattle.std.proofs.Common.{◌∷◌, [], ◌++◌, map, sym, ap, ◌∙◌}
use Rattle.std.specs.Prelude.{IsTrue}
use Rattle.std.proofs.lemmas.List.{map_push}
use Rattle.std.proofs.lemmas.List.Elements.{All-push}
use Rattle.relay_delivery.specs.Rooms.{planned_in}
use Rattle.relay_delivery.specs.declared.rooms.Room.{Room}
use Rattle.relay_delivery.proofs.rooms.written_rooms.Goals as goal

pub loop-room-preserved : goal.loop-room-preserved
loop-room-preserved c =
    let write = planned_in c.args.placing.now in
    let yielded = c.loop-room.yielded in
    let room = c.in-Some.room in
    record {
      transactions = c.in_ok-push.ensures.items
          ∙ ap (λ ts. ts ++ c.in_ok-planned.field-0 ∷ []) c.loop-room.invariant.transactions
          ∙ ap (λ t. map write yielded ++ t ∷ []) c.in_ok-planned.ensures
          ∙ sym (map_push write yielded room);
      full = All-push (λ (r : Room). IsTrue r.is_full) yielded room c.loop-room.invariant.full c.if-not-room.false;
    }
