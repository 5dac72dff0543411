use Rattle.std.proofs.Common.{◌-◌, ◌<◌, ◌≤◌}
use Rattle.aliasplan_explain.specs.Stretches.{AreStretches}
use Rattle.aliasplan_explain.proofs.stretch.stretches_of.Given as goal

abbrev pub invariant-loop-start : goal.invariant-loop-start
invariant-loop-start l = record {
  cut : AreStretches 0 l.stretches.items l.start;
  within : l.start ≤ l.items;
  some : 0 < l.size;
}

abbrev pub decreases-loop-start : goal.decreases-loop-start
decreases-loop-start l = l.items - l.start
