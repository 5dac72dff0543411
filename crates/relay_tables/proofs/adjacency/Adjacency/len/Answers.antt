use Rattle.std.proofs.Common.{arith}
use Rattle.std.proofs.lemmas.List.{length-map}
use Rattle.relay_tables.specs.Adjacency.{lists_of, row_in}
use Rattle.relay_tables.proofs.adjacency.Adjacency.len.Goals as goal

pub returns : goal.returns
returns c =
    let i = c.self.inside in
    rw (← c.self.view_is) (omega (arith, length-map i.records.items (row_in (lists_of i.numbers.items i.ends.items)), i.records.ok.0))
