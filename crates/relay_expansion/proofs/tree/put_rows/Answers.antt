use Rattle.relay_expansion.proofs.TreeFacts.{lines_more}
use Rattle.relay_expansion.proofs.tree.put_rows.Goals as goal

pub loop-row-preserved : goal.loop-row-preserved
loop-row-preserved c =
    lines_more c.args.tables.now c.args.graph.now c.args.rows.now c.args.out.now.items c.loop-row.out.items c.put_row.new.out.items c.loop-row.row-index _ c.loop-row-test.true c.loop-row.invariant c.in_ok-put_row.ensures
