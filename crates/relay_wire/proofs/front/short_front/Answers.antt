use Rattle.std.proofs.Common.{◌≡◌, ◌∙◌, get_or, arith, rules}
use Rattle.relay_wire.proofs.Fronts.{front_room, front_small, front_whole}
use Rattle.relay_wire.proofs.front.short_front.Goals as goal

pub overflow_mul-number : goal.overflow_mul-number
overflow_mul-number c = omega (arith, front_room c.loop-place.number c.loop-place.place c.loop-place.invariant.small (omega arith))

pub overflow_add-number : goal.overflow_add-number
overflow_add-number c = omega (arith, front_room c.loop-place.number c.loop-place.place c.loop-place.invariant.small (omega arith))

pub loop-place-preserved : goal.loop-place-preserved
loop-place-preserved c =
    let byte : c.from.result ≡ get_or c.args.text.now c.loop-place.place 0 = c.from.ensures ∙ c.unwrap_or-byte.ensures ∙ search rules in
    record {
      small = front_small c.loop-place.number c.from.result c.loop-place.place c.loop-place.invariant.small (omega arith);
      whole = front_whole c.loop-place.number c.from.result c.loop-place.place _ c.args.text.now (omega arith) byte c.loop-place.invariant.whole;
    }
