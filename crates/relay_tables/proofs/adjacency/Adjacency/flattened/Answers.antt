use Rattle.std.proofs.Common.{arith, ◌∙◌}
use Rattle.relay_tables.proofs.RowRecords.{concat_more}
use Rattle.relay_tables.proofs.adjacency.Adjacency.flattened.Goals as goal

pub loop-number-preserved : goal.loop-number-preserved
loop-number-preserved c =
    let l = c.loop-number in
    c.in_ok-append.ensures.ok
    ∙ concat_more c.args.self.now l.numbers.items c.row.result.now l.number (let t = c.loop-number-test.true in omega (arith, c.len-number-end.ensures)) l.invariant c.row.ensures
