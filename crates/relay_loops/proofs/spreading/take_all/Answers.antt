use Rattle.std.proofs.Common.{arith}
use Rattle.relay_loops.proofs.Taking.{taken_none, taken_more}
use Rattle.relay_loops.proofs.spreading.take_all.Goals as goal

pub loop-node-init : goal.loop-node-init
loop-node-init c = taken_none c.args.direction c.args.places.now c.args.found.now.items

pub loop-node-preserved : goal.loop-node-preserved
loop-node-preserved c =
    taken_more c.args.direction c.args.nodes.now c.loop-node.node-index c.args.places.now c.loop-node.places c.take.new.places c.args.found.now.items c.loop-node.found.items c.take.new.found.items (omega arith) c.loop-node.invariant c.in_ok-take.ensures
