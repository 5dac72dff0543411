use Rattle.std.proofs.Common.{◌≡◌, ℕ, Some, Option, List, map, get_or, sym, subst}
use Rattle.std.specs.Prelude.{IsSome, IfSome}
use Rattle.std.proofs.lemmas.Option.{slice_get_within}
use Rattle.relay_tables.specs.declared.node.Node.{Node}
use Rattle.relay_tables.specs.Graphs.{entry_nodes, nodes_at}
use Rattle.relay_planning.specs.Delivery.{directory_of}
use Rattle.aliasplan_explain.specs.Targets.{entry_at}
use Rattle.aliasplan_explain.proofs.UnreachedFacts.{IsEntryAt, entry_of_number, listed_more}
use Rattle.aliasplan_explain.proofs.unreached.listed_for.Goals as goal
use Rattle.aliasplan_explain.proofs.unreached.listed_for.Goals.{In-loop-from}

-- the number of this turn is an entry's
this_entry : (c : In-loop-from) → IsEntryAt c.args.grounds.now.job.now c.args.grounds.now.basis.now.graph.nodes c.deref-from-items.result.now c.loop-from.from-index
this_entry c =
    let job = c.args.grounds.now.job.now in
    let g = c.args.grounds.now.basis.now.graph in
    let are = subst (λ (ns : List ℕ). nodes_at g ns ≡ map (λ (n : Node). Some n) (entry_nodes (directory_of job))) (sym c.deref-from-items.ensures.value) c.in_ok-numbers.ensures in
    entry_of_number job g c.deref-from-items.result.now c.loop-from.from-index are c.loop-from-test.true

pub add_listed-requires-clause-from : goal.add_listed-requires-clause-from
add_listed-requires-clause-from c =
    let e = this_entry (goal.at.add_listed-requires-clause-from c).In-loop-from in
    slice_get_within c.args.grounds.now.basis.now.graph.nodes (get_or c.deref-from-items.result.now c.loop-from.from-index 0) e.node e.at

pub add_listed-requires-clause-entry : goal.add_listed-requires-clause-entry
add_listed-requires-clause-entry c =
    let e = this_entry (goal.at.add_listed-requires-clause-entry c).In-loop-from in
    subst (λ (o : Option Node). IfSome o (λ node. IsSome (entry_at (directory_of c.args.grounds.now.job.now) node))) (sym e.at) e.entry

pub loop-from-preserved : goal.loop-from-preserved
loop-from-preserved c =
    let e = this_entry (goal.at.loop-from-preserved c).In-loop-from in
    λ node at.
    listed_more c.args.grounds.now.job.now node c.args.grounds.now.basis.now.graph.nodes c.deref-from-items.result.now c.loop-from.from-index e c.loop-from.listed.items c.add_listed.new.listed.items (c.loop-from.invariant node at) (c.in_ok-add_listed.ensures node e.node e.at at)
