use Rattle.std.proofs.Common.{arith, ℕ, List, ◌∷◌, [], ◌+◌, Vec, Global, map, take, drop, slice_get, sym, ap, ◌∙◌}
use Rattle.std.proofs.lemmas.Result.{err_from_is_err_and}
use Rattle.relay_tables.specs.Targets.{recipient_target}
use Rattle.relay_tables.specs.Numbering.{Numbered}
use Rattle.relay_tables.specs.Rowing.{nodes_in, some_of}
use Rattle.relay_tables.proofs.RowSteps.{with_all-none, with_all-more, refused, row_push, map_split_at, map_more_at}
use Rattle.relay_tables.proofs.rowing.number_recipients.Goals as goal

pub loop-address-init : goal.loop-address-init
loop-address-init c = record {
  names = sym (with_all-none c.args.names.now);
  roots = ap (map (slice_get c.args.names.now.nodes)) c.in_ok-roots.ensures.items;
  room = omega (arith, c.in_ok-roots.ensures.len, c.in_ok-roots.ensures.capacity);
}

pub returns-in_err-number-clause-numbers : goal.returns-in_err-number-clause-numbers
returns-in_err-number-clause-numbers c =
    let l = c.loop-address in
    let f = recipient_target c.args.tables.now in
    let items = c.args.recipients.now in
    let item = c.address-item.result in
    let new = c.number_address.new.names in
    let p = err_from_is_err_and c.from_residual-in_err-number.result c.from_residual-in_err-number.ensures.1 in
    rw (p.1, p.2)
    (refused ℕ (Vec ℕ Global) _ c.args.names.now l.names new new (map f (take l.address-index items)) (f item ∷ []) (map f (drop (l.address-index + 1) items)) (map f items)
    l.invariant.names (map_split_at f items l.address-index item c.loop-address-test.true c.address-item.is) c.in_err-number.ensures.numbers)

pub loop-address-preserved : goal.loop-address-preserved
loop-address-preserved c =
    let l = c.loop-address in
    let f = recipient_target c.args.tables.now in
    let items = c.args.recipients.now in
    let item = c.address-item.result in
    let new = c.number_address.new.names in
    let more = map_more_at f items l.address-index item c.loop-address-test.true c.address-item.is in
    let step = c.in_ok-number.ensures.numbers in
    record {
      names = with_all-more c.args.names.now l.names new (map f (take l.address-index items)) (f item ∷ []) (map f (take (l.address-index + 1) items)) l.invariant.names step more;
      roots = ap (λ (row : List ℕ). nodes_in new.nodes row) c.push_reserved.ensures.items
          ∙ row_push l.names.nodes new.nodes l.roots.items (map f (take l.address-index items)) c.in_ok-number.number (f item) l.invariant.roots (ap (λ (s : Numbered). s.nodes) step) c.in_ok-number.ensures.number
          ∙ ap some_of (sym more);
      room = omega (arith, l.invariant.room, c.push_reserved.ensures.len, c.push_reserved.ensures.capacity);
    }
