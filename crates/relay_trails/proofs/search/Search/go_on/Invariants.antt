use Rattle.std.proofs.Common.{◌-◌, ◌≤◌, length}
use Rattle.relay_trails.specs.declared.step.Link.TheVariants.{Item}
use Rattle.relay_trails.specs.Searches.{IsMarkedAt}
use Rattle.relay_trails.proofs.search.Search.go_on.Given as goal

abbrev pub invariant-loop-from : goal.invariant-loop-from
invariant-loop-from l = record {
  at : IsMarkedAt l.graph l.pairs l.self.marks.items l.self.steps.items (Item l.from 0);
  within : l.from ≤ length l.self.steps.items;
}

abbrev pub decreases-loop-from : goal.decreases-loop-from
decreases-loop-from l = length l.pairs - l.from
