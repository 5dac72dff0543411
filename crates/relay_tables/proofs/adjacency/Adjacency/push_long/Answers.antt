use Rattle.std.proofs.Common.{rules, arith, ◌≡◌, ◌+◌, ◌^◌, ◌++◌, length}
use Rattle.relay_tables.proofs.RowRecords.{with_long, long_more}
use Rattle.relay_tables.proofs.adjacency.Adjacency.push_long.Goals as goal

pub invariant_of-self-2 : goal.invariant_of-self-2
invariant_of-self-2 c =
    let records = c.self.inside.records.items in
    let numbers = c.self.inside.numbers.items in
    let ends = c.self.inside.ends.items in
    let row = c.args.row.now in
    let grown : c.extend_from_slice.new.self.items ≡ numbers ++ row = c.in_ok-extend_from_slice.ensures.items in
    let place : c.len.result ≡ length ends = search rules in
    let end : c.len-end.result ≡ length (numbers ++ row) = search rules in
    rw (c.push_reserved.ensures.items, c.reserve-2.ensures.items, c.push_reserved-2.ensures.items, c.reserve.ensures.items, grown, end)
    (with_long records numbers ends c.self.invariant row (2 ^ 31 + c.len.result) (omega (arith, place)))

pub returns-clause-ok : goal.returns-clause-ok
returns-clause-ok c =
    let records = c.self.inside.records.items in
    let numbers = c.self.inside.numbers.items in
    let ends = c.self.inside.ends.items in
    let row = c.args.row.now in
    let grown : c.extend_from_slice.new.self.items ≡ numbers ++ row = c.in_ok-extend_from_slice.ensures.items in
    let place : c.len.result ≡ length ends = search rules in
    let end : c.len-end.result ≡ length (numbers ++ row) = search rules in
    rw (← c.self.view_is, c.push_reserved.ensures.items, c.reserve-2.ensures.items, c.push_reserved-2.ensures.items, c.reserve.ensures.items, grown, end)
    (long_more records numbers ends c.self.invariant row (2 ^ 31 + c.len.result) (omega (arith, place)) (rw (← c.self.view_is) at c.requires))
