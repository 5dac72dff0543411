use Rattle.std.proofs.Common.{◌≡◌, List, Some, Err, length, slice_get, refl, sym, ap, ◌∙◌, subst}
use Rattle.std.proofs.lemmas.Result.{err_from_is_err_and}
use Rattle.relay_tables.specs.declared.node.Node.{Node}
use Rattle.relay_tables.specs.Targets.{targets_of}
use Rattle.relay_tables.specs.Numbering.{Numbered, Numbers, with_all}
use Rattle.relay_tables.specs.Rowing.{nodes_in, some_of}
use Rattle.relay_tables.proofs.Found.{found_too_many, reach_step, targets_within}
use Rattle.relay_tables.proofs.RowSteps.{same_fault}
use Rattle.relay_tables.proofs.reaching.reach_more.Goals as goal

pub returns-in_err-number_items-clause-full : goal.returns-in_err-number_items-clause-full
returns-in_err-number_items-clause-full c =
    let d = c.args.tables.now in
    let old : Numbered = c.args.found.now.names in
    let n : Node = c.node-node.result.now in
    let e = c.in_err-number_items.field-0.0 in
    let new : Numbered = c.number_items.new.names in
    let h : Numbers {A = Unit {0}} old (targets_of d n) (Err e) new = subst (λ (ts : List Node). Numbers {A = Unit {0}} old ts (Err e) new) (sym c.items_of-list.ensures.targets) c.in_err-number_items.ensures.numbers in
    let p = err_from_is_err_and c.from_residual-in_err-number_items.result c.from_residual-in_err-number_items.ensures.1 in
    rw (p.1, p.2) (λ f rs found. found_too_many d rs (Unit {0}) e old.limit old new (targets_of d n) found (targets_within d rs n) refl h (same_fault _ _ f))

pub returns-clause-reach : goal.returns-clause-reach
returns-clause-reach c =
    let d = c.args.tables.now in
    let old = c.args.found.now in
    let n : Node = c.node-node.result.now in
    let at : slice_get old.names.nodes (length old.children) ≡ Some n = ap (slice_get old.names.nodes) (sym c.len-number.ensures) ∙ c.node-node.ensures in
    let targets = c.items_of-list.ensures.targets in
    let names : c.number_items.new.names ≡ with_all old.names (targets_of d n) = c.in_ok-number_items.ensures.numbers ∙ ap (with_all old.names) (sym targets) in
    let row : nodes_in c.number_items.new.names.nodes c.deref.result.now ≡ some_of (targets_of d n) =
    ap (nodes_in c.number_items.new.names.nodes) c.deref.ensures.value ∙ c.in_ok-number_items.ensures.row ∙ ap some_of (sym targets) in
    λ sender rs r. reach_step d sender rs old _ n c.deref.result.now c.in_ok-owner.owner at names row refl c.in_ok-push-2.ensures.ok c.in_ok-owner.ensures.added c.in_ok-push.ensures.items c.in_ok-owner.ensures.owned r
