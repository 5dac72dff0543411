use Rattle.std.proofs.lemmas.Result.{err_from_is_err_and}
use Rattle.aliasplan_explain.proofs.ExpansionFacts.{refuses_tables}
use Rattle.aliasplan_explain.proofs.running_graph.graph_input.Goals as goal

pub returns-in_err-tables-clause-refused : goal.returns-in_err-tables-clause-refused
returns-in_err-tables-clause-refused g c =
    let p = err_from_is_err_and c.from_residual.result c.from_residual.ensures.1 in
    rw (p.1, p.2) (refuses_tables c.args.crew.now.limits c.args.asked.now c.args.input.now c.requires c.in_err-tables.field-0.0 c.in_err-tables.ensures)
