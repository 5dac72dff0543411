use Rattle.std.proofs.Common.{take}
use Rattle.aliasplan.specs.ReturnLines.{HavePairLine, ReportsEach}
use Rattle.aliasplan.proofs.return_lines.add_pairs.Given as goal

abbrev pub invariant-loop-pair : goal.invariant-loop-pair
invariant-loop-pair l = ReportsEach l.initial.lists.items l.lists.items (HavePairLine l.graph l.undelivered (take l.pair-index l.pairs) l.recipient)
