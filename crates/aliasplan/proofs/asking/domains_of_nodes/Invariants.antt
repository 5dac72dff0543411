use Rattle.std.proofs.Common.{[], take}
use Rattle.relay_planning.specs.Findings.{Reports}
use Rattle.relay_planning.specs.Entries.{HaveLine}
use Rattle.aliasplan.specs.Domains.{AsksFor}
use Rattle.aliasplan.proofs.asking.domains_of_nodes.Given as goal

abbrev pub invariant-loop-node : goal.invariant-loop-node
invariant-loop-node l = Reports [] l.domains (HaveLine (AsksFor l.job l.graph) (take l.node-index l.nodes))
