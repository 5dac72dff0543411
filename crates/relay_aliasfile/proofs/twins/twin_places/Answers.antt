use Rattle.std.proofs.Common.{◌≡◌, ◌+◌, ◌<◌, length, get_or, sym, ap, ◌∙◌, subst, arith}
use Rattle.std.proofs.lemmas.Grind.{get_or_default_zero}
use Rattle.relay_aliasfile.specs.Twins.{slot_under}
use Rattle.relay_aliasfile.proofs.TwinFacts.{AreMarkedPlaces, place_more, place_left}
use Rattle.relay_aliasfile.proofs.twins.twin_places.Goals as goal
use Rattle.relay_aliasfile.proofs.twins.twin_places.Goals.{then-index-eq2+in_ok-push, else-index-eq2}

pub loop-place-preserved : goal.loop-place-preserved
loop-place-preserved c =
    let slots = c.clamp-slots.result in
    let hashes = c.args.hashes.now in
    let marks = c.in_ok-marks.marks.items in
    let k = c.loop-place.place in
    let slot = c.slot_of.result in
    let inside : slot < length marks = omega (arith, c.slot_of.ensures.below, c.in_ok-marks.ensures.long) in
    let read : c.index.result.now ≡ get_or marks (slot_under slots (get_or hashes k 0)) 0 =
    c.index.ensures ∙ get_or_default_zero marks slot c.index.result.now inside ∙ ap (λ s. get_or marks s 0) c.slot_of.ensures.slot in
    let places = c.loop-place.places.items in
    elim c.if-index-eq2.branch [
      | then-index-eq2+in_ok-push w ↦
          subst (λ ps. AreMarkedPlaces slots hashes marks (k + 1) ps) (sym (ap (λ v. v.items) w.places-is ∙ w.in_ok-push.ensures.items)) (place_more slots hashes marks k places c.loop-place.invariant)
      | else-index-eq2 w ↦
          subst (λ ps. AreMarkedPlaces slots hashes marks (k + 1) ps) (sym (ap (λ v. v.items) w.places-is)) (place_left slots hashes marks k places c.loop-place.invariant (λ two. w.if-index-eq2.false (read ∙ two)))
    ]
