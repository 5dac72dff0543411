use Rattle.std.proofs.Common.{[], refl, sym, ap, arith}
use Rattle.std.specs.Prelude.{unwrap_or}
use Rattle.relay_chains.proofs.Texts.{text-found}
use Rattle.relay_tables.proofs.Cuts.{length-lists, row-past}
use Rattle.relay_tables.specs.Adjacency.{lists_of}
use Rattle.relay_tables.proofs.adjacency.row_at.Goals as goal

pub returns-then-number-ends : goal.returns-then-number-ends
returns-then-number-ends c =
    sym (ap (λ o. unwrap_or o []) (text-found c.args.numbers.now c.args.ends.now c.args.number _ _ (omega arith) c.start_of.ensures refl))

pub returns-else-number-ends : goal.returns-else-number-ends
returns-else-number-ends c =
    sym (row-past (lists_of c.args.numbers.now c.args.ends.now) c.args.number (omega (arith, length-lists c.args.numbers.now c.args.ends.now)))
