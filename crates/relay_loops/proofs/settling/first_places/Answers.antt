use Rattle.std.proofs.Common.{ℕ, ◌<◌, [], length, get_or, refl, length-set, arith}
use Rattle.relay_loops.specs.declared.place.Place.{Place}
use Rattle.relay_loops.specs.declared.place.Place.TheVariants.{Left}
use Rattle.relay_loops.proofs.Placing.{changed_set}
use Rattle.relay_loops.proofs.settling.first_places.Goals as goal

pub loop-node-preserved : goal.loop-node-preserved
loop-node-preserved c =
    let i : ℕ = c.loop-node.node-index in
    let x : ℕ = get_or c.args.reached.now i 0 in
    let below : i < length c.args.reached.now = omega arith in
    let known : x < length c.args.graph.now.nodes = c.requires i 0 below in
    let fits = c.type_inv.reached i in
    let inside : x < length c.loop-node.places.items = omega (arith, fits) in
    let left = changed_set (λ (p : Place). Left) c.args.reached.now i [] c.loop-node.places.items Left below inside c.loop-node.invariant.left refl in
    record { sized = rw length-set c.loop-node.invariant.sized; left = left }
