use Rattle.std.proofs.Common.{◌≡◌, true, sym, ap, ◌∙◌}
use Rattle.relay_loops.specs.Places.{is_open, place_at}
use Rattle.relay_loops.proofs.Taking.{taken_open}
use Rattle.relay_loops.proofs.spreading.take.Goals as goal

pub returns-in_ok-push : goal.returns-in_ok-push
returns-in_ok-push c =
    let here : is_open c.args.direction (place_at c.args.places.now c.args.node) ≡ true = ap (is_open c.args.direction) (sym c.place_of.ensures) ∙ sym c.if-is_open.ensures in
    rw (c.in_ok-push.ensures.items, c.met.ensures) (taken_open c.args.direction c.args.places.now c.args.node c.args.found.now.items here)
