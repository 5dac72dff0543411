use Rattle.std.proofs.Common.{ℕ, ◌<◌, length, get_or, take, ap, ◌∙◌, arith}
use Rattle.relay_loops.specs.Places.{settled}
use Rattle.relay_loops.proofs.Placing.{changed_set, changed_again, settled-twice}
use Rattle.relay_loops.proofs.dividing.settle_ahead.Goals as goal

pub loop-node-preserved : goal.loop-node-preserved
loop-node-preserved c =
    let i : ℕ = c.loop-node.node-index in
    let x : ℕ = get_or c.args.ahead.now i 0 in
    let below : i < length c.args.ahead.now = omega arith in
    let asked : x < length c.args.places.now = c.requires i 0 below in
    let inside : x < length c.loop-node.places = omega arith in
    changed_set settled c.args.ahead.now i c.args.places.now c.loop-node.places c.settled.result below inside c.loop-node.invariant
    (c.settled.ensures ∙ ap settled c.place_of.ensures ∙ changed_again settled settled-twice (take i c.args.ahead.now) c.args.places.now c.loop-node.places c.loop-node.invariant x)
