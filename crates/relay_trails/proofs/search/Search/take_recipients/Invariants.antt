use Rattle.relay_trails.specs.declared.step.Link.TheVariants.{Recipient}
use Rattle.relay_trails.specs.Searches.{IsMarkedAt}
use Rattle.relay_trails.proofs.search.Search.take_recipients.Given as goal

abbrev pub invariant-loop-recipient : goal.invariant-loop-recipient
invariant-loop-recipient l = IsMarkedAt l.graph l.pairs l.self.marks.items l.self.steps.items (Recipient l.recipient)
