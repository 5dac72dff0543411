use Rattle.std.proofs.Common.{take}
use Rattle.relay_explain.specs.declared.given_by.GivenBy.TheVariants as given
use Rattle.aliasplan_explain.specs.ChainSteps.{IsGivenPast, given_at}
use Rattle.aliasplan_explain.proofs.walking.owner_along.Given as goal

abbrev pub invariant-loop-number : goal.invariant-loop-number
invariant-loop-number l = IsGivenPast l.grounds.job.now l.grounds.basis.now.graph given.Envelope (take l.number-index l.nodes) (given_at l.grounds.job.now l.owner)
