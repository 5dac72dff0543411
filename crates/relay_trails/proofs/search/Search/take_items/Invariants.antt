use Rattle.relay_trails.specs.declared.step.Link.TheVariants.{Item}
use Rattle.relay_trails.specs.Searches.{IsMarkedAt}
use Rattle.relay_trails.specs.Steps.{IsKept}
use Rattle.relay_trails.proofs.search.Search.take_items.Given as goal

abbrev pub invariant-loop-item : goal.invariant-loop-item
invariant-loop-item l = record {
  at : IsMarkedAt l.graph l.pairs l.self.marks.items l.self.steps.items (Item l.from l.item);
  kept : IsKept l.initial.self.steps.items l.self.steps.items;
}
