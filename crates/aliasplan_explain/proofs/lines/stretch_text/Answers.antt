use Rattle.std.proofs.Common.{ℕ, ◌+◌, ◌-◌, ◌<◌, ap, sym, subst, drop, length, arith}
use Rattle.std.proofs.lemmas.List.Elements.{All-drop, All-same, All-take}
use Rattle.relay_explain.specs.ExplanationText.{step_line}
use Rattle.relay_wire.specs.PlanText.{line}
use Rattle.aliasplan_explain.specs.Stretches.{IsTextOf}
use Rattle.aliasplan_explain.proofs.StretchFacts.{one_text, texts_join}
use Rattle.aliasplan_explain.proofs.WalkFacts.{all_inside, one_more}
use Rattle.aliasplan_explain.proofs.lines.stretch_text.Goals as goal

pub slice_bounds-places_ahead-count : goal.slice_bounds-places_ahead-count
slice_bounds-places_ahead-count c =
    let long = one_more c.args.grounds.now.job.now c.args.grounds.now.basis.now.graph c.requires.made.graph c.args.found.now c.requires.nodes in
    omega (arith, long, ap length c.as_slice-nodes.ensures.value, c.loop-place-test.true, c.requires.within)

pub slice_bounds-places_ahead-start : goal.slice_bounds-places_ahead-start
slice_bounds-places_ahead-start c =
    let long = one_more c.args.grounds.now.job.now c.args.grounds.now.basis.now.graph c.requires.made.graph c.args.found.now c.requires.nodes in
    omega (arith, long, ap length c.as_slice-nodes.ensures.value, c.loop-place-test.true, c.requires.within)

pub offset_bounds-nodes-place : goal.offset_bounds-nodes-place
offset_bounds-nodes-place c =
    let long = one_more c.args.grounds.now.job.now c.args.grounds.now.basis.now.graph c.requires.made.graph c.args.found.now c.requires.nodes in
    let below : c.loop-place.place < length c.as_slice-nodes.result.now = omega (arith, long, ap length c.as_slice-nodes.ensures.value, c.loop-place-test.true, c.requires.within) in
    omega (arith, below, c.as_slice-nodes.type_inv.1)

pub places_ahead-requires : goal.places_ahead-requires
places_ahead-requires c =
    let g = c.args.grounds.now.basis.now.graph in
    let nodes = c.as_slice-nodes.result.now in
    let inside : ℕ → Type 0 = λ n. n < length g.nodes in
    let all = All-same inside nodes c.args.found.now.nodes.items c.as_slice-nodes.ensures.value (all_inside c.args.grounds.now.job.now g c.requires.made.graph c.args.found.now c.requires.nodes) in
    All-take inside (length nodes - c.loop-place.place) (drop c.loop-place.place nodes) (All-drop inside c.loop-place.place nodes all)

pub loop-place-preserved : goal.loop-place-preserved
loop-place-preserved c =
    let job = c.args.grounds.now.job.now in
    let g = c.args.grounds.now.basis.now.graph in
    let found = c.args.found.now in
    let start = c.args.stretch.start in
    let k = c.loop-place.place in
    let told = c.in_ok-put_step.ensures in
    subst (IsTextOf job g found start (k + 1)) (sym told.2)
    (texts_join job g found start k (k + 1) c.loop-place.out.items (line (step_line told.0)) c.loop-place.invariant (one_text job g found k told.0 told.1))
