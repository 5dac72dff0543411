use Rattle.std.proofs.Common.{◌++◌, ◌∷◌, [], arith, ap, ◌∙◌}
use Rattle.relay_aliasfile.proofs.IncludePaths.{paths_more, paths_other}
use Rattle.relay_aliasfile.proofs.paths.add_paths.Goals as goal
use Rattle.relay_aliasfile.proofs.paths.add_paths.Goals.{in-Some+in_ok-copy_of+in_ok-push, in_default}

pub loop-item-preserved : goal.loop-item-preserved
loop-item-preserved c =
    let items = c.args.items.now in
    let i = c.loop-item.item-index in
    let x = c.item-item.result in
    let before = c.args.paths.now.items in
    let paths = c.loop-item.paths.items in
    elim c.match-included_path.branch [
      | in-Some+in_ok-copy_of+in_ok-push w ↦
          ap (λ v. v.items) w.paths-is ∙ w.in_ok-push.ensures.items ∙ ap (λ p. paths ++ p ∷ []) w.in_ok-copy_of.ensures
          ∙ paths_more items i x before paths w.in-Some.path.now (omega arith) c.item-item.is w.in-Some.ensures c.loop-item.invariant
      | in_default w ↦ ap (λ v. v.items) w.paths-is ∙ paths_other items i x before paths (omega arith) c.item-item.is w.in_default.ensures c.loop-item.invariant
    ]
