use Rattle.std.proofs.Common.{arith, ◌^◌, ◌≤◌, List, Err, length, ap}
use Rattle.std.specs.Option.{option_map}
use Rattle.std.proofs.lemmas.Result.{err_from_is_err_and}
use Rattle.relay_tables.specs.declared.fault.TableFault.{TableFault}
use Rattle.relay_tables.specs.GraphParts.{GraphParts}
use Rattle.relay_tables.specs.Senders.{Sender}
use Rattle.relay_tables.proofs.Assembled.{rows_count, entries_within, graph_is, too_many_owners, not_refused, refused_by}
use Rattle.relay_tables.proofs.ClosedGraphs.{closed_graph}
use Rattle.relay_tables.proofs.GraphsFrom.{from_whole}
use Rattle.relay_tables.proofs.graph.Graph.build.Goals as goal

pub returns-in_err-rows-clause-refusal : goal.returns-in_err-rows-clause-refusal
returns-in_err-rows-clause-refusal c =
    let p = err_from_is_err_and c.from_residual.result c.from_residual.ensures.1 in
    rw (p.1, p.2)
    (refused_by c.args.tables.now c.args.recipients.now GraphParts c.in_err-rows.field-0.0 c.args.names c.args.owners
    (λ e. c.in_err-rows.ensures.full (ap (λ (x : TableFault). Err x) e)) (λ e. c.in_err-rows.ensures.owners (ap (λ (x : TableFault). Err x) e)))

pub returns-then-owned-owners-clause-refusal : goal.returns-then-owned-owners-clause-refusal
returns-then-owned-owners-clause-refusal c =
    too_many_owners c.args.tables.now c.args.recipients.now c.args.names c.args.owners c.in_ok-rows.ensures.within (omega (arith, c.count_owners-owned.ensures))

pub invariant_of-result : goal.invariant_of-result
invariant_of-result c =
    let r = c.in_ok-rows.rows in
    let d = c.args.tables.now in
    let rs = c.args.recipients.now in
    let count = rows_count d rs r.nodes.items r.children r.roots.items c.in_ok-rows.ensures.rows in
    let within = entries_within d rs r.nodes.items r.children r.roots.items c.in_ok-rows.ensures.rows in
    let senders : List Sender = c.in_ok-numbered.numbered.senders in
    let sender : Sender = option_map (λ a. a.now) c.args.sender in
    let graph = graph_is d rs r.nodes.items r.children r.roots.items c.in_ok-rows.ensures.rows sender senders c.in_ok-numbered.numbered.owners.items c.in_ok-numbered.ensures.owned c.into_vec.ensures.distinct in
    let few_nodes : length r.nodes.items ≤ 2 ^ 24 = omega (arith, c.in_ok-rows.ensures.few, c.requires.names) in
    let few_senders : length senders ≤ 2 ^ 32 = omega (arith, c.in_ok-numbered.ensures.few, c.count_owners-owned.ensures, c.if-owned-owners.false, c.requires.owners) in
    record {
      closed = rw c.into_vec.ensures.senders (closed_graph d sender rs _ (from_whole d sender rs _ graph) few_nodes few_senders);
      few_rows = omega (arith, count, within);
    }

pub returns-clause-graph : goal.returns-clause-graph
returns-clause-graph c =
    let r = c.in_ok-rows.rows in
    let sender : Sender = option_map (λ a. a.now) c.args.sender in
    rw c.into_vec.ensures.senders
    (graph_is c.args.tables.now c.args.recipients.now r.nodes.items r.children r.roots.items c.in_ok-rows.ensures.rows sender c.in_ok-numbered.numbered.senders c.in_ok-numbered.numbered.owners.items
    c.in_ok-numbered.ensures.owned c.into_vec.ensures.distinct)

pub returns-clause-refusal : goal.returns-clause-refusal
returns-clause-refusal c =
    not_refused c.args.tables.now c.args.recipients.now c.args.names c.args.owners c.in_ok-rows.ensures.within (omega (arith, c.count_owners-owned.ensures, c.if-owned-owners.false))

pub returns-clause-senders : goal.returns-clause-senders
returns-clause-senders c = omega (arith, c.in_ok-numbered.ensures.few, ap length c.into_vec.ensures.senders)
