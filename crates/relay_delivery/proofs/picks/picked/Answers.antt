use Rattle.std.proofs.Common.{◌+◌, ◌-◌, ◌≤◌, length, vec_capacity, vec_len, arith}
use Rattle.relay_delivery.proofs.Steps.{picked_more, read_at}
use Rattle.relay_delivery.proofs.picks.picked.Goals as goal

pub loop-number-preserved : goal.loop-number-preserved
loop-number-preserved g c =
    let from = c.args.from.now in
    let numbers = c.args.numbers.now in
    let i = c.loop-number.number-index in
    let x = c.index-from-number.result in
    let room : vec_len c.loop-number.picks + (length numbers - i) ≤ vec_capacity c.loop-number.picks = c.loop-number.invariant.room in
    record {
      picks = picked_more from numbers i c.loop-number.picks.items c.push_reserved.new.self.items x c.loop-number-test.true
          (read_at from numbers i x (c.requires i 0 c.loop-number-test.true) c.index-from-number.is) c.push_reserved.ensures.items c.loop-number.invariant.picks;
      room = omega (arith, room, c.loop-number-test.true, c.push_reserved.ensures.len, c.push_reserved.ensures.capacity);
    }
