use Rattle.std.proofs.Common.{◌≡◌, ℕ, length, take}
use Rattle.std.specs.Prelude.{All, Contains, Some, slice_get}
use Rattle.relay_tables.specs.declared.node.Node.{Node}
use Rattle.relay_planning.specs.Delivery.{routing_of}
use Rattle.aliasplan.specs.ReturnLines.{AreFindings, AreUndelivered, lines_at}
use Rattle.aliasplan.proofs.undelivered.lists_of.Given as goal

abbrev pub invariant-loop-node : goal.invariant-loop-node
invariant-loop-node l = record {
  long : length l.lists.items ≡ length l.graph.nodes;
  each : (n : ℕ) (node : Node) → Contains (take l.node-index l.nodes) n → slice_get l.graph.nodes n ≡ Some node → AreUndelivered l.job node (lines_at l.lists.items n);
  findings : All AreFindings l.lists.items;
  routing : l.destinations.routing ≡ routing_of l.job;
  via : l.destinations.via ≡ l.job.settings.mailbox_transport;
}
