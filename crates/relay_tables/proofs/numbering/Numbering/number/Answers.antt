use Rattle.std.proofs.Common.{ap, sym}
use Rattle.relay_tables.specs.Numbering.{Numbered, node_of}
use Rattle.relay_tables.proofs.Numbers.{there_stays}
use Rattle.relay_tables.proofs.RowSteps.{with_these}
use Rattle.relay_tables.proofs.numbering.Numbering.number.Goals as goal

pub returns-in-Some-clause-numbers : goal.returns-in-Some-clause-numbers
returns-in-Some-clause-numbers c =
    let s : Numbered = c.args.self.now in
    ap (with_these s) (sym (there_stays s.nodes c.in-Some.number (node_of c.args.lead) c.in-Some.ensures.found))
