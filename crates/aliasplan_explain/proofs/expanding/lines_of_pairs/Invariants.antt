use Rattle.std.proofs.Common.{[], take}
use Rattle.relay_job.specs.declared.job.Job.{Job}
use Rattle.relay_planning.specs.Findings.{Reports}
use Rattle.aliasplan_explain.specs.Expansions.{HavePairLine}
use Rattle.aliasplan_explain.proofs.expanding.lines_of_pairs.Given as goal

abbrev pub invariant-loop-pair : goal.invariant-loop-pair
invariant-loop-pair l = (job : Job) → Reports [] l.lines (HavePairLine job l.graph l.with_senders (take l.pair-index l.pairs))
