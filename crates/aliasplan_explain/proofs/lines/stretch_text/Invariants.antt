use Rattle.aliasplan_explain.specs.Stretches.{IsTextOf}
use Rattle.aliasplan_explain.proofs.lines.stretch_text.Given as goal

abbrev pub invariant-loop-place : goal.invariant-loop-place
invariant-loop-place l = IsTextOf l.grounds.job.now l.grounds.basis.now.graph l.found l.stretch.start l.place l.out.items
