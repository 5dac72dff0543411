use Rattle.std.proofs.Common.{arith}
use Rattle.relay_loops.proofs.Taking.{taken_none, taken_more}
use Rattle.relay_loops.proofs.spreading.take_keys.Goals as goal

pub loop-key-init : goal.loop-key-init
loop-key-init c = taken_none c.args.direction c.args.places.now c.args.found.now.items

pub loop-key-preserved : goal.loop-key-preserved
loop-key-preserved c =
    taken_more c.args.direction c.args.keys.now c.loop-key.key-index c.args.places.now c.loop-key.places c.take.new.places c.args.found.now.items c.loop-key.found.items c.take.new.found.items (omega arith) c.loop-key.invariant c.in_ok-take.ensures
