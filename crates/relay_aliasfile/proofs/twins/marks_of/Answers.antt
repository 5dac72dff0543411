use Rattle.std.proofs.Common.{◌≡◌, ◌<◌, length, ◌∙◌, arith, get_or}
use Rattle.std.proofs.lemmas.Grind.{get_or_default_zero}
use Rattle.relay_aliasfile.proofs.TwinFacts.{marks_more}
use Rattle.relay_aliasfile.proofs.twins.marks_of.Goals as goal
use Rattle.relay_aliasfile.proofs.twins.marks_of.Goals.{then-index-eq0, else-index-eq0}

pub loop-hash-preserved : goal.loop-hash-preserved
loop-hash-preserved c =
    let marks = c.loop-hash.marks.items in
    let slot = c.slot_of-slot.result in
    let long = c.loop-hash.invariant.long in
    let inside : slot < length marks = omega (arith, c.slot_of-slot.ensures.below, long) in
    let read : c.index.result.now ≡ get_or marks slot 0 = c.index.ensures ∙ get_or_default_zero marks slot c.index.result.now inside in
    let mark = c.if-index-eq0.mark in
    let some : 0 < mark = elim c.if-index-eq0.branch [
      | then-index-eq0 w ↦ omega (arith, w.mark-is)
      | else-index-eq0 w ↦ omega (arith, w.mark-is)
    ] in
    let second : 0 < get_or marks slot 0 → mark ≡ 2 = λ some_there. elim c.if-index-eq0.branch [
      | then-index-eq0 w ↦ omega (arith, w.mark-is, w.if-index-eq0.true, read, some_there)
      | else-index-eq0 w ↦ w.mark-is
    ] in
    marks_more c.args.slots c.args.hashes.now marks c.loop-hash.hash-index c.loop-hash-test.true slot c.slot_of-slot.ensures.slot c.slot_of-slot.ensures.below mark some second c.loop-hash.invariant
