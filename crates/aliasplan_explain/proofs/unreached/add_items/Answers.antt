use Rattle.std.proofs.Common.{◌≡◌, ℕ, [], Iter, length, refl, ap, ◌∙◌}
use Rattle.std.specs.declared.iter.Zip.{Zip}
use Rattle.std.specs.Iterator.Adapters.{zip_first, zip_second}
use Rattle.std.specs.Slice.Iter.{iter_rest}
use Rattle.std.proofs.lemmas.List.{length_push}
use Rattle.std.proofs.lemmas.Slice.Zip.{zip_turn, zip_end}
use Rattle.relay_aliasfile.specs.declared.places.ItemPlace.{ItemPlace}
use Rattle.relay_tables.specs.Graphs.{child_numbers}
use Rattle.aliasplan_explain.proofs.UnreachedFacts.{item_added, item_passed, items_end}
use Rattle.aliasplan_explain.proofs.unreached.add_items.Goals as goal
use Rattle.aliasplan_explain.proofs.unreached.add_items.Goals.{After-next}

-- the children and the row are gone through side by side
children_first : (c : After-next) → iter_rest (zip_first c.into_iter-child-iterator.result) ≡ child_numbers c.args.grounds.now.basis.now.graph c.args.from
children_first c =
    ap (λ (z : Zip (Iter ℕ) (Iter ItemPlace)). iter_rest (zip_first z)) c.into_iter-child-iterator.ensures.into_iter_gives
    ∙ ap (λ (i : Iter ℕ). iter_rest i) c.zip-child-items.ensures.first
    ∙ c.iter.ensures.rest
    ∙ c.children-children.ensures

row_second : (c : After-next) → iter_rest (zip_second c.into_iter-child-iterator.result) ≡ c.args.row.now
row_second c =
    ap (λ (z : Zip (Iter ℕ) (Iter ItemPlace)). iter_rest (zip_second z)) c.into_iter-child-iterator.ensures.into_iter_gives ∙ c.zip-child-items.ensures.second.0

pub loop-child-preserved-in-Continue-1 : goal.loop-child-preserved-in-Continue-1
loop-child-preserved-in-Continue-1 c =
    let n = (goal.at.loop-child-preserved-in-Continue-1 c).After-next in
    let turn = zip_turn _ c.args.row.now c.loop-child.yielded _ c.loop-child.child-iterator c.next.new.self c.next.result (children_first n) (row_second n) c.loop-child.yielded_by _ c.in-Some.is c.next.ensures.steps in
    λ node entry at is.
    item_added c.args.target _ c.args.row.now entry c.loop-child.listed.items c.add_item.new.listed.items _ (length c.loop-child.yielded) _ c.in-Some.child.now c.in-Some.place.now (length_push c.loop-child.yielded _) turn.0 turn.1 (turn.2 0) (c.loop-child.invariant node entry at is) (turn.3 c.in-Some.place.now)
    c.if-child-target.true (c.in_ok-add_item.ensures node entry at is)

pub loop-child-preserved : goal.loop-child-preserved
loop-child-preserved c =
    let n = (goal.at.loop-child-preserved c).After-next in
    let turn = zip_turn _ c.args.row.now c.loop-child.yielded _ c.loop-child.child-iterator c.next.new.self c.next.result (children_first n) (row_second n) c.loop-child.yielded_by _ c.in-Some.is c.next.ensures.steps in
    λ node entry at is.
    item_passed c.args.target _ c.args.row.now entry c.loop-child.listed.items c.loop-child.listed.items _ (length c.loop-child.yielded) _ c.in-Some.child.now c.in-Some.place.now (length_push c.loop-child.yielded _) turn.0 turn.1 (turn.2 0) (c.loop-child.invariant node entry at is) c.if-child-target.false refl

pub returns : goal.returns
returns c =
    let n = (goal.at.returns c).After-next in
    let over = zip_end _ c.args.row.now c.loop-child.yielded _ c.loop-child.child-iterator c.next.new.self c.next.result (children_first n) (row_second n) c.loop-child.yielded_by c.in-None.is c.next.ensures.steps in
    λ node entry at is. items_end c.args.target _ c.args.row.now entry c.loop-child.listed.items [] _ (length c.loop-child.yielded) over (c.loop-child.invariant node entry at is)
