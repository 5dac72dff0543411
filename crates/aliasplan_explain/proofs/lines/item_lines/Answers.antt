use Rattle.std.proofs.Common.{◌≡◌, ℕ, ◌<◌, ◌≤◌, ap, sym, subst, get_or, map, List, Result, Ok, IfOk, length, arith}
use Rattle.std.proofs.lemmas.List.{length-map}
use Rattle.std.proofs.lemmas.Result.{IfOk-weaker}
use Rattle.std.specs.declared.alloc.AllocError.{AllocError}
use Rattle.aliasplan_explain.specs.declared.stretch.Stretch.{Stretch}
use Rattle.aliasplan_explain.specs.Stretches.{AreStretches, IsTextOf}
use Rattle.aliasplan_explain.proofs.StretchFacts.{stretch_at, stretches_text, texts_given}
use Rattle.aliasplan_explain.proofs.lines.item_lines.Goals as goal

pub map_vec-requires-after_bounds : goal.map_vec-requires-after_bounds
map_vec-requires-after_bounds g c κs within =
    λ i x short same.
    let stretches = c.in_ok-stretches.stretches.items in
    let cut = subst (AreStretches 0 stretches) (ap length c.as_slice-items.ensures.value) c.in_ok-stretches.ensures in
    let at = stretch_at 0 (length c.args.found.now.items.items) stretches cut i x short in
    let Q : Stretch → Type 0 = λ s. (s.start ≤ s.end) × (s.end ≤ length c.args.found.now.items.items) in
    let here = subst Q (sym same) at in
    (c.requires.made, c.requires.nodes, here.0, here.1)

pub returns : goal.returns
returns g c =
    let job = c.args.grounds.now.job.now in
    let graph = c.args.grounds.now.basis.now.graph in
    let found = c.args.found.now in
    let stretches = c.in_ok-stretches.stretches.items in
    let results = c.in_ok-told.told.items in
    let cut = subst (AreStretches 0 stretches) (ap length c.as_slice-items.ensures.value) c.in_ok-stretches.ensures in
    IfOk-weaker c.all_of.result _ _
    (λ texts are.
    let all : map (λ (t : List ℕ). Ok t) texts.items ≡ results = are in
    let ok : List ℕ → Result (List ℕ) AllocError = λ t. Ok t in
    let long : length stretches ≡ length texts.items = omega (arith, c.in_ok-stretches.stretches.ok.0, c.in_ok-told.ensures.len, c.in_ok-told.told.ok.0, ap length all, length-map texts.items ok) in
    let each : (i : ℕ) (s : Stretch) (d : Result (List ℕ) AllocError) → i < length stretches → IfOk (get_or (map (λ (t : List ℕ). Ok t) texts.items) i d) (IsTextOf job graph found (get_or stretches i s).start (get_or stretches i s).end) =
    λ i s d short.
    let given = (c.in_ok-told.ensures.each i d short).1 in
    let here = subst (λ (x : Stretch). IfOk (get_or results i d) (IsTextOf job graph found x.start x.end)) (sym (given.job_is s)) given.call.met in
    subst (λ (rs : List (Result (List ℕ) AllocError)). IfOk (get_or rs i d) (IsTextOf job graph found (get_or stretches i s).start (get_or stretches i s).end)) (sym all) here in
    stretches_text job graph found 0 (length found.items.items) stretches texts.items cut (texts_given job graph found {E = AllocError} stretches texts.items long each))
    c.all_of.ensures
