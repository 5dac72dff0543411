use Rattle.std.proofs.Common.{◌≡◌, ◌∙◌, ◌+◌, ℕ, List, ap, sym, rules, length, replicate, Some, slice_get, slice_index, subst}
use Rattle.std.proofs.lemmas.List.{length-replicate}
use Rattle.std.proofs.lemmas.Option.{slice_get-get_or}
use Rattle.relay_expansion.specs.declared.row.Standing.TheVariants.{First}
use Rattle.relay_expansion.proofs.WalkFacts.{asked_by, asked_in, begun, is_walk}
use Rattle.relay_expansion.proofs.walk.rows_of.Goals as goal
use Rattle.relay_expansion.proofs.walk.rows_of.Goals.{then-branch+in_ok-walk_from, else-branch}

pub loop-root-init : goal.loop-root-init
loop-root-init c =
    let g = c.args.graph.now in
    let walk = c.in_ok-walk.walk in
    let fresh : walk.standings.items ≡ replicate (length g.nodes) First = c.in_ok-walk.ensures.standings ∙ ap (λ n. replicate n First) c.nodes-nodes.ensures.value in
    record {
      walk = is_walk g walk.standings.items walk.path.items walk.rows.items (ap length fresh ∙ length-replicate (length g.nodes) First) (rw c.in_ok-walk.ensures.path (search rules)) (rw c.in_ok-walk.ensures.rows (search rules));
      path = c.in_ok-walk.ensures.path;
      walks = begun g walk.standings.items walk.path.items walk.rows.items fresh c.in_ok-walk.ensures.path c.in_ok-walk.ensures.rows;
    }

pub loop-root-preserved : goal.loop-root-preserved
loop-root-preserved c =
    let g = c.args.graph.now in
    let roots = c.roots-root-items.result.now in
    let at = c.loop-root.root-index in
    let before = c.loop-root.walk in
    let after = c.meet.new.self in
    let is : slice_get g.roots at ≡ Some (slice_index roots at) = subst (λ (l : List ℕ). slice_get l at ≡ Some (slice_index roots at)) c.roots-root-items.ensures (slice_get-get_or roots at _ c.loop-root-test.true) in
    elim c.if-branch.branch [
      | then-branch+in_ok-walk_from w ↦
          let come = asked_in g at before.standings.items before.rows.items after.rows.items (slice_index roots at) (length before.path.items) c.loop-root.invariant.walks is (sym c.in_ok-meet.ensures.goes ∙ w.if-branch.true) c.in_ok-meet.ensures.row in
          rw w.walk-is record {
            walk = w.in_ok-walk_from.ensures.walk;
            path = w.in_ok-walk_from.ensures.path;
            walks = w.in_ok-walk_from.ensures.walks (at + 1) (rw (c.in_ok-meet.ensures.standings, c.in_ok-meet.ensures.path, c.loop-root.invariant.path) come);
          }
      | else-branch w ↦
          let met = asked_by g at before.standings.items before.rows.items after.rows.items (slice_index roots at) (length before.path.items) c.loop-root.invariant.walks is (sym c.in_ok-meet.ensures.goes ∙ w.if-branch.false) c.in_ok-meet.ensures.row in
          rw w.walk-is record {
            walk = is_walk g after.standings.items after.path.items after.rows.items (rw c.in_ok-meet.ensures.standings c.loop-root.invariant.walk.sized) (rw c.in_ok-meet.ensures.path c.loop-root.invariant.walk.within) c.in_ok-meet.ensures.told;
            path = rw c.in_ok-meet.ensures.path c.loop-root.invariant.path;
            walks = rw c.in_ok-meet.ensures.standings met;
          }
    ]
