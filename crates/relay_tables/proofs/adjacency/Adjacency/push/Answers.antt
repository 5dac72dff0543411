use Rattle.std.proofs.Common.{arith, refl}
use Rattle.std.proofs.lemmas.List.{nil_from_length}
use Rattle.relay_tables.proofs.RowRecords.{empty_more}
use Rattle.relay_tables.proofs.adjacency.Adjacency.push.Goals as goal

pub returns-in_ok-push-in-empty-clause-ok : goal.returns-in_ok-push-in-empty-clause-ok
returns-in_ok-push-in-empty-clause-ok c =
    let i = c.self.inside in
    let none = nil_from_length c.args.row.now (omega (arith, c.in-empty.len_below)) in
    rw (← c.self.view_is, c.in_ok-push-in-empty.ensures.items, none)
    (empty_more i.records.items i.numbers.items i.ends.items c.self.invariant _ refl (rw (← c.self.view_is) at c.requires))
