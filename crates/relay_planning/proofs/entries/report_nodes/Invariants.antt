use Rattle.std.proofs.Common.{take}
use Rattle.relay_planning.specs.Findings.{Reports}
use Rattle.relay_planning.specs.Entries.{HaveLine, IsNodeLine}
use Rattle.relay_planning.proofs.entries.report_nodes.Given as goal

abbrev pub invariant-loop-node : goal.invariant-loop-node
invariant-loop-node g l = Reports l.initial.lines l.lines (HaveLine (IsNodeLine l.graph l.tables) (take l.node-index l.nodes))
