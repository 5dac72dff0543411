use Rattle.std.proofs.Common.{◌<◌, length, map, ◌∙◌, arith}
use Rattle.relay_aliasfile.specs.Repeats.{entry_name}
use Rattle.relay_aliasfile.proofs.NameRepeats.{said_more}
use Rattle.relay_aliasfile.proofs.repeats.repeats_of.Goals as goal

pub loop-place-preserved : goal.loop-place-preserved
loop-place-preserved c =
    let said = said_more (map entry_name c.args.entries.now) c.deref-first-items.result.now c.loop-place.repeats.items c.push_reserved.new.self.items c.loop-place.place c.loop-place-test.true
    (c.deref-first-items.ensures.value ∙ c.in_ok-places.ensures) c.loop-place.invariant.said c.push_reserved.ensures.items in
    let within : c.loop-place.place < length c.deref-first-items.result.now = c.loop-place-test.true in
    record {
      said = said;
      room = omega (arith, within, c.loop-place.invariant.room, c.push_reserved.ensures.len, c.push_reserved.ensures.capacity);
    }
