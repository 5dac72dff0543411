use Rattle.std.proofs.Common.{◌≡◌, ◌<◌, ◌++◌, length, reverse}
use Rattle.relay_trails.specs.Searches.{pair_in}
use Rattle.relay_trails.specs.Steps.{place_at, trail_at}
use Rattle.relay_trails.specs.Trails.{AreNodesFrom}
use Rattle.relay_trails.proofs.answering.read_back.Given as goal

abbrev pub invariant-loop-nodes : goal.invariant-loop-nodes
invariant-loop-nodes l = record {
  within : l.at < length l.steps;
  recipient : (trail_at l.steps l.initial.at).recipient ≡ (trail_at l.steps l.at).recipient;
  items : (trail_at l.steps l.initial.at).items ≡ (trail_at l.steps l.at).items ++ reverse l.items.items;
  nodes : AreNodesFrom l.graph (pair_in l.pairs (place_at l.steps l.at)).node (reverse l.items.items) (reverse l.nodes.items);
}

abbrev pub decreases-loop-nodes : goal.decreases-loop-nodes
decreases-loop-nodes l = l.at
