use Rattle.std.proofs.Common.{ℕ, List, ◌∷◌, [], ◌+◌, map, take, drop, slice_get, sym, ap, ◌∙◌}
use Rattle.std.proofs.lemmas.Result.{err_from_is_err_and}
use Rattle.relay_tables.specs.Targets.{item_target}
use Rattle.relay_tables.specs.Numbering.{Numbered}
use Rattle.relay_tables.specs.Rowing.{nodes_in, some_of}
use Rattle.relay_tables.proofs.RowSteps.{with_all-none, with_all-more, refused, row_push, map_split_at, map_more_at}
use Rattle.relay_tables.proofs.rowing.number_items.Goals as goal

pub loop-item-init : goal.loop-item-init
loop-item-init c = record {
  names = sym (with_all-none c.args.names.now);
  row = ap (map (slice_get c.args.names.now.nodes)) c.clear.ensures.items;
}

pub returns-in_err-number-clause-numbers : goal.returns-in_err-number-clause-numbers
returns-in_err-number-clause-numbers c =
    let l = c.loop-item in
    let f = item_target c.args.tables.now c.args.list.parent in
    let items = c.args.list.items.now in
    let item = c.item-item.result in
    let new = c.number_item.new.names in
    let p = err_from_is_err_and c.from_residual.result c.from_residual.ensures.1 in
    rw (p.1, p.2)
    (refused ℕ (Unit {0}) _ c.args.names.now l.names new new (map f (take l.item-index items)) (f item ∷ []) (map f (drop (l.item-index + 1) items)) (map f items)
    l.invariant.names (map_split_at f items l.item-index item c.loop-item-test.true c.item-item.is) c.in_err-number.ensures.numbers)

pub loop-item-preserved : goal.loop-item-preserved
loop-item-preserved c =
    let l = c.loop-item in
    let f = item_target c.args.tables.now c.args.list.parent in
    let items = c.args.list.items.now in
    let item = c.item-item.result in
    let new = c.number_item.new.names in
    let more = map_more_at f items l.item-index item c.loop-item-test.true c.item-item.is in
    let step = c.in_ok-number.ensures.numbers in
    record {
      names = with_all-more c.args.names.now l.names new (map f (take l.item-index items)) (f item ∷ []) (map f (take (l.item-index + 1) items)) l.invariant.names step more;
      row = ap (λ (row : List ℕ). nodes_in new.nodes row) c.in_ok-push.ensures.items
          ∙ row_push l.names.nodes new.nodes l.scratch.row.items (map f (take l.item-index items)) c.in_ok-number.number (f item) l.invariant.row (ap (λ (s : Numbered). s.nodes) step) c.in_ok-number.ensures.number
          ∙ ap some_of (sym more);
    }
