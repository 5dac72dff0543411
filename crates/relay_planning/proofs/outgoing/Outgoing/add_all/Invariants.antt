use Rattle.std.proofs.Common.{◌≡◌, ◌⊎◌, ◌≤◌, ℕ, List, length, take}
use Rattle.std.specs.Prelude.{◌↔◌, IsTrue}
use Rattle.relay_text.specs.Bytes.{has_text}
use Rattle.relay_planning.specs.Delivery.{routing_of}
use Rattle.relay_planning.specs.Routes.{HaveLine, AreKnown, AreOutgoing}
use Rattle.relay_planning.proofs.outgoing.Outgoing.add_all.Given as goal

abbrev pub invariant-loop-pair : goal.invariant-loop-pair
invariant-loop-pair g l = record {
  graph : l.self.graph.now ≡ l.initial.self.graph.now;
  routing : l.destinations.routing ≡ routing_of l.job;
  via : l.destinations.via ≡ l.job.settings.mailbox_transport;
  known : AreKnown l.job l.initial.self.graph.now l.destinations.routes l.self.recipients.items l.self.known.items l.lines;
  outgoing : AreOutgoing l.job l.initial.self.graph.now (take l.pair-index l.pairs) l.self.known.items l.self.deliveries.items;
  lines : (q : List ℕ) → IsTrue (has_text l.lines q) ↔ (IsTrue (has_text l.initial.lines q) ⊎ HaveLine l.job l.initial.self.graph.now (take l.pair-index l.pairs) q);
  few_recipients : length l.self.recipients.items ≤ l.pair-index;
  few_deliveries : length l.self.deliveries.items ≤ l.pair-index;
}
