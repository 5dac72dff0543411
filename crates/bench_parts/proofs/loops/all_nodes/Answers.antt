use Rattle.std.proofs.Common.{◌≡◌, ℕ, List, IfOk, refl, sym, ◌∙◌, ap, subst, arith}
use Rattle.std.specs.List.{range_with_len}
use Rattle.std.proofs.lemmas.Iterator.{YieldsList-from_range, items_from_collect}
use Rattle.relay_loops.specs.Loops.{IsClosedPart}
use Rattle.bench_parts.proofs.loops.all_nodes.Goals as goal

pub returns-2-clause-all : goal.returns-2-clause-all
returns-2-clause-all c =
    let n : ℕ = c.nodes-2.result in
    let collected = items_from_collect c.collect.result c.collect.ensures.ran (YieldsList-from_range 0 n n refl (omega arith)) in
    let numbers : c.in_ok-nodes.nodes.items ≡ range_with_len 0 n = subst (λ r. IfOk r (λ nodes. nodes.items ≡ range_with_len 0 n)) c.in_ok-nodes.was collected in
    numbers ∙ ap (range_with_len 0) c.nodes-2.ensures.value

pub returns-2-clause-closed : goal.returns-2-clause-closed
returns-2-clause-closed c =
    let n : ℕ = c.nodes-2.result in
    let collected = items_from_collect c.collect.result c.collect.ensures.ran (YieldsList-from_range 0 n n refl (omega arith)) in
    let numbers : c.in_ok-nodes.nodes.items ≡ range_with_len 0 n = subst (λ r. IfOk r (λ nodes. nodes.items ≡ range_with_len 0 n)) c.in_ok-nodes.was collected in
    let graph = c.args.graph.now in
    subst (IsClosedPart graph) (sym (numbers ∙ ap (range_with_len 0) c.nodes-2.ensures.value)) (c.whole_graphs.ensures graph c.nodes-2.ensures.closed)
