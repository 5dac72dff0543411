use Rattle.std.proofs.Common.{arith, ◌≡◌, ◌+◌, List, length, map, take, drop, sym, ap, ◌∙◌}
use Rattle.std.specs.List.{flat_map}
use Rattle.std.proofs.lemmas.List.{length_push, take_all}
use Rattle.std.proofs.lemmas.Result.{err_from_is_err_and}
use Rattle.relay_tables.specs.declared.node.Node.{Node}
use Rattle.relay_tables.specs.Targets.{item_target, targets_of}
use Rattle.relay_tables.specs.Graphs.{entry_nodes}
use Rattle.relay_tables.specs.Numbering.{Numbered, with_all}
use Rattle.relay_tables.specs.Rowing.{nodes_in, some_of}
use Rattle.relay_tables.proofs.EntrySteps.{rows_more, targets_more, targets_split}
use Rattle.relay_tables.proofs.Numbers.{length-entries}
use Rattle.relay_tables.proofs.RowSteps.{with_all-none, with_all-more, refused, rows_push}
use Rattle.relay_tables.proofs.rowing.number_entries.Goals as goal

pub loop-number-init : goal.loop-number-init
loop-number-init c = record {
  count = ap length c.requires.none;
  names = sym (with_all-none c.args.names.now);
  rows = ap (map (nodes_in c.args.names.now.nodes)) c.requires.none;
}

pub returns-in_err-number_items-clause-numbers : goal.returns-in_err-number_items-clause-numbers
returns-in_err-number_items-clause-numbers c =
    let l = c.loop-number in
    let d = c.args.tables.now in
    let k = l.number in
    let list = c.list_of.result in
    let ts = map (item_target d list.parent) list.items.now in
    let new = c.number_items.new.names in
    let p = err_from_is_err_and c.from_residual.result c.from_residual.ensures.1 in
    rw (p.1, p.2)
    (refused (Unit {0}) (Unit {0}) c.in_err-number_items.field-0.0 c.args.names.now l.names new new (flat_map (targets_of d) (take k (entry_nodes d))) ts (flat_map (targets_of d) (drop (k + 1) (entry_nodes d)))
    (flat_map (targets_of d) (entry_nodes d)) l.invariant.names (targets_split d k ts c.list_of.ensures.targets) c.in_err-number_items.ensures.numbers)

pub push-requires : goal.push-requires
push-requires c = omega (arith, c.loop-number.invariant.count, c.entry_count-number-end.ensures, c.requires.few)

pub loop-number-preserved : goal.loop-number-preserved
loop-number-preserved c =
    let l = c.loop-number in
    let d = c.args.tables.now in
    let k = l.number in
    let list = c.list_of.result in
    let ts = map (item_target d list.parent) list.items.now in
    let at = c.list_of.ensures.targets in
    let new = c.number_items.new.names in
    let step : new ≡ with_all l.names ts = c.in_ok-number_items.ensures.numbers in
    let row : nodes_in new.nodes c.deref.result.now ≡ some_of ts = ap (nodes_in new.nodes) c.deref.ensures.value ∙ c.in_ok-number_items.ensures.row in
    record {
      count = omega (arith, l.invariant.count, ap length c.in_ok-push.ensures.ok, length_push l.rows c.deref.result.now);
      names = with_all-more c.args.names.now l.names new (flat_map (targets_of d) (take k (entry_nodes d))) ts (flat_map (targets_of d) (take (k + 1) (entry_nodes d))) l.invariant.names step (targets_more d k ts at);
      rows = ap (map (nodes_in new.nodes)) c.in_ok-push.ensures.ok
          ∙ rows_push l.names.nodes new.nodes l.rows (map (targets_of d) (take k (entry_nodes d))) c.deref.result.now ts l.invariant.rows (ap (λ (m : Numbered). m.nodes) step) row
          ∙ ap (map some_of) (sym (rows_more d k ts at));
    }

pub returns-clause-rows : goal.returns-clause-rows
returns-clause-rows c =
    let l = c.loop-number in
    let d = c.args.tables.now in
    let all : take l.number (entry_nodes d) ≡ entry_nodes d = take_all l.number (entry_nodes d) (omega (arith, c.entry_count-number-end.ensures, length-entries (length d.aliases) (length d.includes))) in
    l.invariant.rows ∙ ap (λ (ns : List Node). map some_of (map (targets_of d) ns)) all

pub returns-clause-numbers : goal.returns-clause-numbers
returns-clause-numbers c =
    let l = c.loop-number in
    let d = c.args.tables.now in
    let all : take l.number (entry_nodes d) ≡ entry_nodes d = take_all l.number (entry_nodes d) (omega (arith, c.entry_count-number-end.ensures, length-entries (length d.aliases) (length d.includes))) in
    l.invariant.names ∙ ap (λ (ns : List Node). with_all c.args.names.now (flat_map (targets_of d) ns)) all
